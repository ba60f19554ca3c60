-- The canonical tokens of references are no more than those that were read.
use Rattle.std.proofs.Common.{◌≡◌, ℕ, zero, suc, ◌+◌, List, [], ◌∷◌, ◌++◌, length, take, drop, map, inl, inr, refl, ap, sym, ◌∙◌, arith}
use Rattle.std.specs.List.{flat_map}
use Rattle.std.proofs.lemmas.List.{length-append}
use Rattle.std.proofs.lemmas.Grind.{flat_map-append}
use Rattle.smv_core.specs.declared.token.TokenKind.TheVariants.{Ident}
use Rattle.smv_core.specs.declared.tree.Word.{Word}
use Rattle.smv_core.specs.Signs.{open_paren, close_paren, open_bracket, close_bracket, open_brace, close_brace, dot, arrow, slashes}
use Rattle.smv_core.specs.Signs as w
use Rattle.smv_core.specs.Notation.{Tokens, Rule, many, name, separated_or_none, ◌<|>◌}
use Rattle.smv_core.specs.Grammar as g
use Rattle.smv_core.specs.Grammar.{RefPart, Dotted, Bracketed, dotted, bracketed}
use Rattle.smv_print.specs.Written.{Kinds}
use Rattle.smv_print.specs.Types.{word_kinds, names_kinds}
use Rattle.smv_print.specs.Items.{count_before, bracket, brackets, ref_kinds, use_kinds}
use Rattle.law_print_and_parse.specs.Aside.{word_aside, interleaved, numbered, ref_aside, use_aside}
use Rattle.law_print_and_parse.proofs.Levels.{f, inner}
use Rattle.law_print_and_parse.proofs.Order.{ref_part_kinds, ref_part_aside, parts-are, From, in-order}
use Rattle.law_print_and_parse.proofs.References.{made_ref, Layer, layer_kinds, layer_aside, slashed}
use Rattle.law_print_and_parse.proofs.Frugal.{Short, nil, cat, sign-before, name-before, opener-before, same-kinds, Saves, finish, saves-many, saves-separated_or_none, saves-name}
use Rattle.law_print_and_parse.proofs.FrugalExpressions.{fewer}

-- ---- the order of the names

numbered-from : (i : ℕ) (ps : List RefPart) → From i (numbered i ps)
numbered-from i [] = tt
numbered-from i (Dotted x ∷ more) = (omega arith, numbered-from (suc i) more)
numbered-from i (Bracketed x ∷ more) = (omega arith, numbered-from (suc i) more)

abbrev all_kinds : List RefPart → Kinds
all_kinds ps = flat_map ref_part_kinds ps

numbered-kinds : (i : ℕ) (ps : List RefPart) → all_kinds (numbered i ps) ≡ all_kinds ps
numbered-kinds i [] = refl
numbered-kinds i (Dotted x ∷ more) = ap (λ (ks : Kinds). ref_part_kinds (Dotted x) ++ ks) (numbered-kinds (suc i) more)
numbered-kinds i (Bracketed x ∷ more) = ap (λ (ks : Kinds). ref_part_kinds (Bracketed x) ++ ks) (numbered-kinds (suc i) more)

cut-length : (k : ℕ) (names : List Word) → length (take k names) + length (drop k names) ≡ length names
cut-length zero names = omega arith
cut-length (suc k) [] = omega arith
cut-length (suc k) (x ∷ names) = let e = cut-length k names in omega arith

-- two tokens for a name behind a dot, and three for a name in brackets
abbrev count : List Word → List Word → ℕ
count path names = length path + length path + (length names + length names + length names)

bracketed-length : (names : List Word) → length (all_kinds (map Bracketed names)) ≡ count [] names
bracketed-length [] = refl
bracketed-length (x ∷ names) = let e = bracketed-length names in omega arith

interleaved-length : (path names : List Word) → length (all_kinds (interleaved path names)) ≡ count path names
interleaved-length [] names = bracketed-length names
interleaved-length (x ∷ path) names =
    let k : ℕ = count_before x.at names in
    let a = ap (λ (ks : Kinds). length ks) (flat_map-append ref_part_kinds (map Bracketed (take k names)) (Dotted x ∷ interleaved path (drop k names))) in
    let b = length-append (all_kinds (map Bracketed (take k names))) (all_kinds (Dotted x ∷ interleaved path (drop k names))) in
    let c = bracketed-length (take k names) in
    let d = interleaved-length path (drop k names) in
    let e = cut-length k names in
    omega arith

own-length : (ps : List RefPart) → length (all_kinds ps) ≡ count (dotted ps) (bracketed ps)
own-length [] = refl
own-length (Dotted x ∷ more) = let e = own-length more in omega arith
own-length (Bracketed x ∷ more) = let e = own-length more in omega arith

abbrev ordered : List RefPart → List RefPart
ordered ps = interleaved (dotted ps) (bracketed ps)

-- ---- references

saves-bracket : (n : ℕ) → Saves (g.in_brackets f n (inner n)) bracket word_aside
saves-bracket n ts z rest (at, m0, ho, (x, m1, hx, (a2, m2, h2, (e, r)))) =
    finish e r (record { alike = refl; short = opener-before n open_bracket at ho (name-before x hx (sign-before close_bracket a2 h2 (nil m2))) })

pub saves-brackets : (n : ℕ) → Saves (many (g.in_brackets f n (inner n))) brackets (map word_aside)
unfolding brackets
saves-brackets n = saves-many {r = g.in_brackets f n (inner n)} bracket word_aside (saves-bracket n)

saves-part : (n : ℕ) → Saves (g.ref_part f n (inner n)) ref_part_kinds ref_part_aside
saves-part n ts z rest (inl (at, m0, ht, (x, m1, hx, (e, r)))) = finish e r (record { alike = refl; short = sign-before dot at ht (name-before x hx (nil m1)) })
saves-part n ts z rest (inr (x, m0, hx, (e, r))) = let b = saves-bracket n ts x m0 hx in finish e r (record { alike = refl; short = b.short })

ref-kinds : (x : Word) (ps : List RefPart) (l : Layer) → ref_kinds (made_ref x ps l) ≡ Ident x.name ∷ all_kinds (ordered ps) ++ layer_kinds l
ref-kinds x ps l = ap (λ (ks : Kinds). Ident x.name ∷ ks ++ layer_kinds l) (parts-are (dotted ps) (bracketed ps))

ref-alike : (x : Word) (ps : List RefPart) (l : Layer) → layer_kinds (layer_aside l) ≡ layer_kinds l → ref_kinds (ref_aside (made_ref x ps l)) ≡ ref_kinds (made_ref x ps l)
ref-alike x ps l e =
    let now : List RefPart = numbered 1 (ordered ps) in
    ref-kinds (word_aside x) now (layer_aside l)
    ∙ ap (λ (qs : List RefPart). Ident x.name ∷ all_kinds qs ++ layer_kinds (layer_aside l)) (in-order 1 now (numbered-from 1 (ordered ps)))
    ∙ ap (λ (ks : Kinds). Ident x.name ∷ ks ++ layer_kinds (layer_aside l)) (numbered-kinds 1 (ordered ps))
    ∙ ap (λ (ks : Kinds). Ident x.name ∷ all_kinds (ordered ps) ++ ks) e ∙ sym (ref-kinds x ps l)

in-order-short : (ps : List RefPart) {ts rest : Tokens} → Short (all_kinds ps) ts rest → Short (all_kinds (ordered ps)) ts rest
in-order-short ps h = let a = interleaved-length (dotted ps) (bracketed ps) in let b = own-length ps in fewer (omega arith) h

saves-ref-by : (n : ℕ) (layer : Rule Layer) → Saves layer layer_kinds layer_aside → Saves (g.ref_by f n (inner n) layer) ref_kinds ref_aside
saves-ref-by n layer kept ts z rest (x, m0, hx, (ps, m1, hp, (l, m2, hl, (e, r)))) =
    let b = saves-many {r = g.ref_part f n (inner n)} ref_part_kinds ref_part_aside (saves-part n) m0 ps m1 hp in
    let p = kept m1 l m2 hl in
    finish e r (record { alike = ref-alike x ps l p.alike; short = same-kinds (sym (ref-kinds x ps l)) (cat (name-before x hx (in-order-short ps b.short)) p.short) })

saves-layer : Saves (slashed g.layer_name) layer_kinds layer_aside
saves-layer ts z rest (inl (at, m0, h0, (x, m1, hx, (e, r)))) = finish e r (record { alike = refl; short = sign-before slashes at h0 (name-before x hx (nil m1)) })
saves-layer ts z rest (inr (e, r)) = finish e r (record { alike = refl; short = nil ts })

saves-layer-or-free : Saves (slashed (g.layer_name <|> g.free)) layer_kinds layer_aside
saves-layer-or-free ts z rest (inl (at, m0, h0, inl (x, m1, hx, (e, r)))) = finish e r (record { alike = refl; short = sign-before slashes at h0 (name-before x hx (nil m1)) })
saves-layer-or-free ts z rest (inl (at, m0, h0, inr (a1, m1, h1, (e, r)))) = finish e r (record { alike = refl; short = sign-before slashes at h0 (sign-before w.word_free a1 h1 (nil m1)) })
saves-layer-or-free ts z rest (inr (e, r)) = finish e r (record { alike = refl; short = nil ts })

pub saves-ref : (n : ℕ) → Saves (g.ref f n (inner n)) ref_kinds ref_aside
saves-ref n = saves-ref-by n (slashed g.layer_name) saves-layer

saves-used : (n : ℕ) → Saves (g.ref_rule f n (inner n)) ref_kinds ref_aside
saves-used n = saves-ref-by n (slashed (g.layer_name <|> g.free)) saves-layer-or-free

inner-ref : (n : ℕ) → Saves (inner n).ref ref_kinds ref_aside
inner-ref zero ts z rest h = absurd h
inner-ref (suc n) ts z rest h = saves-used n ts z rest h

pub saves-names_or_none : Saves (separated_or_none name) names_kinds (map word_aside)
unfolding names_kinds
saves-names_or_none = saves-separated_or_none {r = name} word_kinds word_aside saves-name

pub saves-use : (n : ℕ) → Saves (g.use_rule f n (inner n)) use_kinds use_aside
saves-use n ts z rest (inl (x, m0, hx, (e, r))) = let b = saves-used n ts x m0 hx in finish e r (record { alike = b.alike; short = b.short })
saves-use n ts z rest (inr (inl (at, m0, ho, (x, m1, hx, (a2, m2, h2, (e, r)))))) =
    let b = inner-ref n m0 x m1 hx in
    finish e r (record { alike = ap (λ (ks : Kinds). open_paren ∷ ks ++ close_paren ∷ []) b.alike; short = cat (opener-before n open_paren at ho b.short) (sign-before close_paren a2 h2 (nil m2)) })
saves-use n ts z rest (inr (inr (x, m0, hx, (a1, m1, h1, (a2, m2, h2, (names, m3, hn, (a4, m4, h4, (e, r)))))))) =
    let b = saves-names_or_none m2 names m3 hn in
    finish e r (record {
      alike = ap (λ (ks : Kinds). Ident x.name ∷ arrow ∷ open_brace ∷ ks ++ close_brace ∷ []) b.alike;
      short = cat (name-before x hx (sign-before arrow a1 h1 (opener-before n open_brace a2 h2 b.short))) (sign-before close_brace a4 h4 (nil m4));
    })
