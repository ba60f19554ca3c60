-- What the rules of references spell is spelled again, at tokens whose offsets rise.
use Rattle.std.proofs.Common.{◌≡◌, ℕ, zero, suc, ◌<◌, ◌≤◌, Bool, false, List, [], ◌∷◌, ◌++◌, Option, Some, None, map, take, drop, inl, inr, refl, ap, sym, ◌∙◌, subst, arith}
use Rattle.std.specs.List.{flat_map}
use Rattle.std.specs.Option.{option_map}
use Rattle.smv_core.specs.declared.token.TokenKind.{TokenKind}
use Rattle.smv_core.specs.declared.token.TokenKind.TheVariants.{Ident, Number, Sign, Reserved}
use Rattle.smv_core.specs.declared.tree.Word.{Word}
use Rattle.smv_core.specs.declared.tree.Ref.{Ref}
use Rattle.smv_core.specs.declared.tree.Use.{Use}
use Rattle.smv_core.specs.declared.tree.Use.TheVariants as uses
use Rattle.smv_core.specs.Signs.{open_bracket, close_bracket, dot, slashes}
use Rattle.smv_core.specs.Notation.{Tokens, Rule, many, nothing, token, name, name_of, ◌>>◌, ◌<|>◌, opener, separated_or_none}
use Rattle.smv_core.specs.Grammar as g
use Rattle.smv_core.specs.Grammar.{RefPart, Dotted, Bracketed, dotted, bracketed}
use Rattle.smv_core.specs.Spelling.{place_of_rest}
use Rattle.smv_print.specs.Written.{Kinds}
use Rattle.smv_print.specs.Types.{word_kinds, names_kinds}
use Rattle.smv_print.specs.Items.{count_before, bracket, ref_kinds, ref_layer, use_kinds}
use Rattle.law_print_and_parse.specs.Aside.{word_aside, interleaved, numbered, ref_aside, use_aside}
use Rattle.law_grammar.specs.Laws.{Rise}
use Rattle.law_print_and_parse.proofs.Again.{Places, Reads, Again, Every, anyhow, next, made, ended, left, right, regroup, sign, level, many-again}
use Rattle.law_print_and_parse.proofs.Keeps.{KeepsAt, Keeps, every-many, keeps-separated_or_none}
use Rattle.law_print_and_parse.proofs.Types.{name-again, keeps-name}
use Rattle.law_print_and_parse.proofs.Levels.{f, inner}
use Rattle.law_print_and_parse.proofs.Expressions.{every-map}
use Rattle.law_print_and_parse.proofs.Order.{ref_part_kinds, ref_part_aside, parts-are, numbered-same, From, in-order}

-- ---- offsets that rise

abbrev pub rising : ℕ → Places
rising length = record { holds = λ us. Rise length us; later = λ u us h. h.1 }

-- the offsets of the tokens rise, from this one on
abbrev TokensFrom : ℕ → Tokens → Type 0
TokensFrom low [] = Unit {0}
TokensFrom low (t ∷ ts) = (low ≤ t.at) × TokensFrom (suc t.at) ts

from-rise : (length low : ℕ) (us : Tokens) → low ≤ place_of_rest length us → Rise length us → TokensFrom low us
from-rise length low [] l h = tt
from-rise length low (t ∷ ts) l h = let k = h.0 in (l, from-rise length (suc t.at) ts (omega arith) h.1)

lower : (low at : ℕ) (us : Tokens) → at ≤ low → TokensFrom low us → TokensFrom at us
lower low at [] l h = tt
lower low at (t ∷ ts) l h = let k = h.0 in (omega arith, h.1)

token-from : (k : TokenKind) (low : ℕ) (us : Tokens) (at : ℕ) (rest : Tokens) → token k us at rest → TokensFrom low us → TokensFrom low rest
token-from k low [] at rest h l = absurd h
token-from k low (u ∷ us) at rest (e, r) l = let b = l.0 in subst (TokensFrom low) r (lower (suc u.at) low us (omega arith) l.1)

opener-from : (n : ℕ) (k : TokenKind) (low : ℕ) (us : Tokens) (at : ℕ) (rest : Tokens) → opener f n k us at rest → TokensFrom low us → TokensFrom low rest
opener-from n k low us at rest (a, m0, ht, (u, m1, (some, (e1, e2)), (e3, e4))) l = subst (TokensFrom low) (e2 ∙ e4) (token-from k low us a m0 ht l)

name-at : (at : ℕ) (k : TokenKind) (x : Word) → name_of at k ≡ Some x → x.at ≡ at
name-at at (Ident bytes) x e = let w : Word = record { name = bytes; at = at } in let d : w ≡ x = cc in ap (λ (v : Word). v.at) (sym d)
name-at at (Number value) x e = absurd cc
name-at at (Sign i) x e = absurd cc
name-at at (Reserved i) x e = absurd cc

name-from : (low : ℕ) (us : Tokens) (x : Word) (rest : Tokens) → name us x rest → TokensFrom low us → (low ≤ x.at) × TokensFrom (suc x.at) rest
name-from low [] x rest h l = absurd h
name-from low (u ∷ us) x rest (e, r) l =
    let d : x.at ≡ u.at = name-at u.at u.kind x e in
    let b = l.0 in
    (omega arith, subst (TokensFrom (suc x.at)) r (subst (λ (z : ℕ). TokensFrom (suc z) us) (sym d) l.1))

-- a part begins at this offset or later, and the rest comes after it
abbrev PartFrom : ℕ → RefPart → Tokens → Type 0
PartFrom low (Dotted x) rest = (low ≤ x.at) × TokensFrom (suc x.at) rest
PartFrom low (Bracketed x) rest = (low ≤ x.at) × TokensFrom (suc x.at) rest

part-from : (n low : ℕ) (us : Tokens) (p : RefPart) (rest : Tokens) → g.ref_part f n (inner n) us p rest → TokensFrom low us → PartFrom low p rest
part-from n low us p rest (inl (at, m0, ht, (x, m1, hx, (e, r)))) l =
    let P : RefPart → Type 0 = λ p. PartFrom low p rest in
    let q = name-from low m0 x m1 hx (token-from dot low us at m0 ht l) in
    subst P e (q.0, subst (TokensFrom (suc x.at)) r q.1)
part-from n low us p rest (inr (x, m3, (at, m0, ho, (x', m1, hx, (a2, m2, hc, (d, r0)))), (e, r))) l =
    let P : RefPart → Type 0 = λ p. PartFrom low p rest in
    let q = name-from low m0 x' m1 hx (opener-from n open_bracket low us at m0 ho l) in
    subst P (ap (λ (z : Word). Bracketed z) d ∙ e) (q.0, subst (TokensFrom (suc x'.at)) (r0 ∙ r) (token-from close_bracket (suc x'.at) m1 a2 m2 hc q.1))

parts-from : (n low : ℕ) (us : Tokens) (ps : List RefPart) (rest : Tokens) → many (g.ref_part f n (inner n)) us ps rest → TokensFrom low us → From low ps
parts-from n low us [] rest h l = tt
parts-from n low us (p ∷ more) rest (mid, hp, hm) l = go p (part-from n low us p mid hp l) (λ a k. parts-from n a mid more rest hm k)
  where
    go : (p : RefPart) → PartFrom low p mid → ((a : ℕ) → TokensFrom a mid → From a more) → From low (p ∷ more)
    go (Dotted x) q later = (q.0, later (suc x.at) q.1)
    go (Bracketed x) q later = (q.0, later (suc x.at) q.1)

-- ---- the parts of a reference

bracket-again : (n : ℕ) (x : Word) → 0 < n → Again (g.in_brackets f n (inner n)) (bracket x) (λ y. word_aside y ≡ word_aside x)
bracket-again n x some = level some refl (λ _. next (name-again x) (λ y e. sign refl (λ _. ended e)))

pub keeps-bracket : (n : ℕ) → Keeps (g.in_brackets f n (inner n)) bracket word_aside
keeps-bracket n ts z rest (at, m0, (a1, m1, ht, (u, m2, (some, q), e0)), (x, m3, hx, (a4, m4, h4, (e, r)))) =
    let P : Word → Type 0 = λ z. Again (g.in_brackets f n (inner n)) (bracket z) (λ y. word_aside y ≡ word_aside z) in subst P e (bracket-again n x some)

-- brackets open a level
abbrev PartFits : ℕ → RefPart → Type 0
PartFits n (Dotted x) = Unit {0}
PartFits n (Bracketed x) = 0 < n

part-fits : (n : ℕ) (ts : Tokens) (p : RefPart) (rest : Tokens) → g.ref_part f n (inner n) ts p rest → PartFits n p
part-fits n ts p rest (inl (at, m0, ht, (x, m1, hx, (e, r)))) = subst (PartFits n) e tt
part-fits n ts p rest (inr (x, m3, (at, m0, (a1, m1, ht, (u, m2, (some, q), e0)), hx), (e, r))) = subst (PartFits n) e some

part-again : (n : ℕ) (p : RefPart) → PartFits n p → Again (g.ref_part f n (inner n)) (ref_part_kinds p) (λ q. ref_part_aside q ≡ ref_part_aside p)
part-again n (Dotted x) h = left (sign refl (λ _. made (name-again x) (λ y e. ap (λ (z : Word). Dotted z) e)))
part-again n (Bracketed x) h = right (made (bracket-again n x h) (λ y e. ap (λ (z : Word). Bracketed z) e))

abbrev NamesFit : ℕ → List Word → Type 0
NamesFit n names = Every (λ x. 0 < n) names

names-fit : (n : ℕ) (ps : List RefPart) → Every (PartFits n) ps → NamesFit n (bracketed ps)
names-fit n [] h = tt
names-fit n (Dotted x ∷ more) h = names-fit n more h.1
names-fit n (Bracketed x ∷ more) h = (h.0, names-fit n more h.1)

-- those in brackets before others, and then these
bracketed-fit : (n k : ℕ) (names : List Word) (more : List RefPart) → NamesFit n names → Every (PartFits n) more → Every (PartFits n) (map Bracketed (take k names) ++ more)
bracketed-fit n zero names more h e = e
bracketed-fit n (suc k) [] more h e = e
bracketed-fit n (suc k) (x ∷ names) more h e = (h.0, bracketed-fit n k names more h.1 e)

dropped-fit : (n k : ℕ) (names : List Word) → NamesFit n names → NamesFit n (drop k names)
dropped-fit n zero names h = h
dropped-fit n (suc k) [] h = h
dropped-fit n (suc k) (x ∷ names) h = dropped-fit n k names h.1

all-bracketed-fit : (n : ℕ) (names : List Word) → NamesFit n names → Every (PartFits n) (map Bracketed names)
all-bracketed-fit n [] h = tt
all-bracketed-fit n (x ∷ names) h = (h.0, all-bracketed-fit n names h.1)

interleaved-fit : (n : ℕ) (path names : List Word) → NamesFit n names → Every (PartFits n) (interleaved path names)
interleaved-fit n [] names h = all-bracketed-fit n names h
interleaved-fit n (x ∷ path) names h =
    let k : ℕ = count_before x.at names in
    bracketed-fit n k names (Dotted x ∷ interleaved path (drop k names)) h (tt, interleaved-fit n path (drop k names) (dropped-fit n k names h))

-- the parts in their order are read again, as parts whose offsets rise
abbrev SameParts : List RefPart → List RefPart → Type 0
SameParts ps qs = (map ref_part_aside qs ≡ map ref_part_aside ps) × From 0 qs

parts-again : (length n : ℕ) (ps : List RefPart) → Every (PartFits n) ps → Reads (rising length) (many (g.ref_part f n (inner n))) (flat_map ref_part_kinds ps) (SameParts ps)
parts-again length n ps h =
    let R : RefPart → Type 0 = λ p. Again (g.ref_part f n (inner n)) (ref_part_kinds p) (λ q. ref_part_aside q ≡ ref_part_aside p) in
    let a : Again (many (g.ref_part f n (inner n))) (flat_map ref_part_kinds ps) (λ qs. map ref_part_aside qs ≡ map ref_part_aside ps) =
    many-again {r = g.ref_part f n (inner n)} ref_part_kinds ref_part_aside ps (every-map (PartFits n) R (part-again n) ps h) in
    record {
      run = λ us rest w k.
          let qs = a.run us rest tt k in
          (qs.0, qs.1, (qs.2, parts-from n 0 us qs.0 rest qs.1 (from-rise length 0 us (omega arith) w)));
    }

-- ---- references

abbrev pub Layer : Type 0
Layer = Option Word × Bool

abbrev pub layer_kinds : Layer → Kinds
layer_kinds l = ref_layer l.0 l.1

abbrev pub layer_aside : Layer → Layer
layer_aside l = (option_map word_aside l.0, l.1)

abbrev pub KeepsLayer : Rule Layer → Type 0
KeepsLayer r = Keeps r layer_kinds layer_aside

-- a reference with its names in this order
abbrev pub made_ref : Word → List RefPart → Layer → Ref
made_ref x ps l = record { path = x ∷ dotted ps; names = bracketed ps; layer = l.0; free = l.1; at = x.at }

ref-same : (x y : Word) (ps qs : List RefPart) (l k : Layer) → word_aside y ≡ word_aside x → SameParts (interleaved (dotted ps) (bracketed ps)) qs → layer_aside k ≡ layer_aside l
    → ref_aside (made_ref y qs k) ≡ ref_aside (made_ref x ps l)
ref-same x y ps qs l k d e c =
    let order : numbered 1 (interleaved (dotted qs) (bracketed qs)) ≡ numbered 1 (interleaved (dotted ps) (bracketed ps)) =
    ap (numbered 1) (in-order 0 qs e.1) ∙ numbered-same 1 qs (interleaved (dotted ps) (bracketed ps)) e.0 in
    let now : Word → List RefPart → Layer → Ref = λ w ns t. record { path = w ∷ dotted ns; names = bracketed ns; layer = t.0; free = t.1; at = 0 } in
    ap (λ (w : Word). now w (numbered 1 (interleaved (dotted qs) (bracketed qs))) (layer_aside k)) d
    ∙ ap (λ (ns : List RefPart). now (word_aside x) ns (layer_aside k)) order
    ∙ ap (λ (t : Layer). now (word_aside x) (numbered 1 (interleaved (dotted ps) (bracketed ps))) t) c

keeps-ref-by : (length n : ℕ) (layer : Rule Layer) → KeepsLayer layer → KeepsAt (rising length) (g.ref_by f n (inner n) layer) ref_kinds ref_aside
keeps-ref-by length n layer kept ts z rest (x, m0, hx, (ps, m1, hp, (l, m2, hl, (e, r)))) =
    let P : Ref → Type 0 = λ z. Reads (rising length) (g.ref_by f n (inner n) layer) (ref_kinds z) (λ y. ref_aside y ≡ ref_aside z) in
    let fit = interleaved-fit n (dotted ps) (bracketed ps) (names-fit n ps (every-many {r = g.ref_part f n (inner n)} (PartFits n) (part-fits n) ps m0 m1 hp)) in
    subst P e (regroup (ap (λ (ks : Kinds). Ident x.name ∷ ks ++ ref_layer l.0 l.1) (sym (parts-are (dotted ps) (bracketed ps))))
    (next (anyhow (name-again x)) (λ y d. next (parts-again length n (interleaved (dotted ps) (bracketed ps)) fit) (λ qs b. made (anyhow (kept m1 l m2 hl)) (λ k c. ref-same x y ps qs l k d b c)))))

abbrev LayerAgain : Rule Layer → Layer → Type 0
LayerAgain r z = Again r (layer_kinds z) (λ y. layer_aside y ≡ layer_aside z)

abbrev pub slashed : Rule Layer → Rule Layer
slashed r = (token slashes >> r) <|> nothing (None, false)

layer-again : (x : Word) → Again g.layer_name (word_kinds x) (λ y. layer_aside y ≡ layer_aside (Some x, false))
layer-again x = made (name-again x) (λ y e. ap (λ (v : Word). let l : Layer = (Some v, false) in l) e)

-- '//' name, or nothing
keeps-layer : KeepsLayer (slashed g.layer_name)
keeps-layer ts z rest (inl (at, m0, h0, (x, m1, hx, (e, r)))) = subst (LayerAgain (slashed g.layer_name)) e (left (sign refl (λ _. layer-again x)))
keeps-layer ts z rest (inr (e, r)) = subst (LayerAgain (slashed g.layer_name)) e (right (ended refl))

-- '//' name, '//' 'free', or nothing
keeps-layer-or-free : KeepsLayer (slashed (g.layer_name <|> g.free))
keeps-layer-or-free ts z rest (inl (at, m0, h0, inl (x, m1, hx, (e, r)))) = subst (LayerAgain (slashed (g.layer_name <|> g.free))) e (left (sign refl (λ _. left (layer-again x))))
keeps-layer-or-free ts z rest (inl (at, m0, h0, inr (a1, m1, h1, (e, r)))) = subst (LayerAgain (slashed (g.layer_name <|> g.free))) e (left (sign refl (λ _. right (sign refl (λ _. ended refl)))))
keeps-layer-or-free ts z rest (inr (e, r)) = subst (LayerAgain (slashed (g.layer_name <|> g.free))) e (right (ended refl))

pub keeps-ref : (length n : ℕ) → KeepsAt (rising length) (g.ref f n (inner n)) ref_kinds ref_aside
keeps-ref length n = keeps-ref-by length n (slashed g.layer_name) keeps-layer

pub keeps-used : (length n : ℕ) → KeepsAt (rising length) (g.ref_rule f n (inner n)) ref_kinds ref_aside
keeps-used length n = keeps-ref-by length n (slashed (g.layer_name <|> g.free)) keeps-layer-or-free

-- ---- uses

inner-ref : (length n : ℕ) → KeepsAt (rising length) (inner n).ref ref_kinds ref_aside
inner-ref length zero ts z rest h = absurd h
inner-ref length (suc n) ts z rest h = keeps-used length n ts z rest h

pub keeps-names : Keeps (separated_or_none name) names_kinds (map word_aside)
unfolding names_kinds
keeps-names = keeps-separated_or_none {r = name} word_kinds word_aside keeps-name

abbrev UseAgain : ℕ → ℕ → Use → Type 0
UseAgain length n z = Reads (rising length) (g.use_rule f n (inner n)) (use_kinds z) (λ y. use_aside y ≡ use_aside z)

pub keeps-use : (length n : ℕ) → KeepsAt (rising length) (g.use_rule f n (inner n)) use_kinds use_aside
keeps-use length n ts z rest (inl (x, m0, hx, (e, r))) = subst (UseAgain length n) e (left (made (keeps-used length n ts x m0 hx) (λ y d. ap (λ (v : Ref). uses.Plain v) d)))
keeps-use length n ts z rest (inr (inl (at, m0, (a1, m1, ht, (u, m2, (some, q), e0)), (x, m3, hx, (a4, m4, h4, (e, r)))))) =
    subst (UseAgain length n) e (right (left (level some refl (λ _. next (inner-ref length n m0 x m3 hx) (λ y d. sign refl (λ _. ended (ap (λ (v : Ref). uses.Early v) d)))))))
keeps-use length n ts z rest (inr (inr (x, m0, hx, (a1, m1, h1, (a2, m2, (a3, m3, ht, (u, m4, (some, q), e0)), (names, m5, hn, (a6, m6, h6, (e, r)))))))) =
    subst (UseAgain length n) e (right (right (next (anyhow (name-again x)) (λ y d. sign refl (λ _. level some refl (λ _. next (anyhow (keeps-names m2 names m5 hn)) (λ ys b. sign refl (λ _. ended
    (ap (λ (v : Word). uses.Keep v (map word_aside ys) 0) d ∙ ap (λ (vs : List Word). uses.Keep (word_aside x) vs 0) b)))))))))
