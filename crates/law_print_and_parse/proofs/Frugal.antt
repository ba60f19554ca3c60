-- Canonical tokens are the same wherever a tree is written, and no more than the tokens that were read.
use Rattle.std.proofs.Common.{◌≡◌, ℕ, ◌+◌, ◌≤◌, List, [], ◌∷◌, ◌++◌, length, if◌then◌else◌, Option, Some, None, map, inl, inr, refl, ap, sym, ◌∙◌, subst, arith}
use Rattle.std.specs.List.{flat_map}
use Rattle.std.proofs.lemmas.List.{length-append}
use Rattle.smv_core.specs.declared.token.Token.{Token}
use Rattle.smv_core.specs.declared.token.TokenKind.{TokenKind}
use Rattle.smv_core.specs.declared.tree.Word.{Word}
use Rattle.smv_core.specs.Signs.{comma}
use Rattle.smv_core.specs.Notation.{Tokens, Rule, many, one, one_of, token, name, number, opener, same_name, same_kind, name_of, number_of, with_place, found, separated, separated_or_none, ◌>>◌}
use Rattle.smv_print.specs.Written.{Kinds, preceded}
use Rattle.smv_print.specs.Written as s
use Rattle.smv_print.specs.Types.{word_kinds, names_kinds}
use Rattle.law_print_and_parse.specs.Aside.{word_aside}

-- ---- how many tokens

-- no more kinds than tokens before the rest
pub record Short (ks : Kinds) (ts rest : Tokens) : Type 0 where
  pub least : length ks + length rest ≤ length ts

pub nil : (ts : Tokens) → Short [] ts ts
nil ts = record { least = omega arith }

pub cat : {ks ls : Kinds} {ts mid rest : Tokens} → Short ks ts mid → Short ls mid rest → Short (ks ++ ls) ts rest
cat {ks} {ls} {ts} {mid} {rest} a b =
    let e : length (ks ++ ls) ≡ length ks + length ls = length-append ks ls in
    let p = a.least in
    let q = b.least in
    record { least = omega arith }

one-short : {A : Type 0} (read : Token → Option A) (k : TokenKind) (ts : Tokens) (a : A) (rest : Tokens) → one read ts a rest → Short (k ∷ []) ts rest
one-short read k [] a rest h = absurd h
one-short read k (t ∷ ts) a rest (e, r) = let d : length ts ≡ length rest = ap (λ (z : Tokens). length z) r in record { least = omega arith }

-- a token, and then more
before : {A : Type 0} (read : Token → Option A) (a : A) {k : TokenKind} {ks : Kinds} {ts mid rest : Tokens} → one read ts a mid → Short ks mid rest → Short (k ∷ ks) ts rest
before read a {k} {ks} {ts} {mid} {rest} h s = let x : Short (k ∷ []) ts mid = one-short read k ts a mid h in cat x s

pub sign-before : (k : TokenKind) (at : ℕ) {ks : Kinds} {ts mid rest : Tokens} → token k ts at mid → Short ks mid rest → Short (k ∷ ks) ts rest
sign-before k at h s = before (λ t. if same_kind t.kind k then Some t.at else None) at h s

pub name-before : (x : Word) {k : TokenKind} {ks : Kinds} {ts mid rest : Tokens} → name ts x mid → Short ks mid rest → Short (k ∷ ks) ts rest
name-before x h s = before (λ t. name_of t.at t.kind) x h s

pub number-before : (x : ℕ × ℕ) {k : TokenKind} {ks : Kinds} {ts mid rest : Tokens} → number ts x mid → Short ks mid rest → Short (k ∷ ks) ts rest
number-before x h s = before (λ t. with_place t.at (number_of t.kind)) x h s

pub entry-before : {B : Type 0} (list : List (TokenKind × B)) (x : B × ℕ) {k : TokenKind} {ks : Kinds} {ts mid rest : Tokens} → one_of list ts x mid → Short ks mid rest → Short (k ∷ ks) ts rest
entry-before list x h s = before (λ t. with_place t.at (found list t.kind)) x h s

pub same-end : {ks : Kinds} {ts mid rest : Tokens} → mid ≡ rest → Short ks ts mid → Short ks ts rest
same-end {ks} {ts} e s = subst (Short ks ts) e s

pub same-start : {ks : Kinds} {ts us rest : Tokens} → ts ≡ us → Short ks ts rest → Short ks us rest
same-start {ks} {ts} {us} {rest} e s = let P : Tokens → Type 0 = λ z. Short ks z rest in subst P e s

pub same-kinds : {ks ls : Kinds} {ts rest : Tokens} → ks ≡ ls → Short ks ts rest → Short ls ts rest
same-kinds {ks} {ls} {ts} {rest} e s = let P : Kinds → Type 0 = λ z. Short z ts rest in subst P e s

-- ---- what a rule spells

-- the canonical tokens are the same with the places aside, and no more than those that were read
pub record Frugal {A : Type 0} (ks : A → Kinds) (aside : A → A) (x : A) (ts rest : Tokens) : Type 0 where
  pub alike : ks (aside x) ≡ ks x
  pub short : Short (ks x) ts rest

abbrev pub Saves : {A : Type 0} → Rule A → (A → Kinds) → (A → A) → Type 0
Saves {A} r ks aside = (ts : Tokens) (x : A) (rest : Tokens) → r ts x rest → Frugal ks aside x ts rest

pub finish : {A : Type 0} {ks : A → Kinds} {aside : A → A} {x z : A} {ts mid rest : Tokens} → x ≡ z → mid ≡ rest → Frugal ks aside x ts mid → Frugal ks aside z ts rest
finish {A} {ks} {aside} {x} {z} {ts} {mid} {rest} e r h =
    let P : A → Type 0 = λ y. Frugal ks aside y ts rest in
    let Q : Tokens → Type 0 = λ u. Frugal ks aside x ts u in
    subst P e (subst Q r h)

pub saves-many : {A : Type 0} {r : Rule A} (ks : A → Kinds) (aside : A → A) → Saves r ks aside → Saves (many r) (flat_map ks) (map aside)
saves-many ks aside g ts [] rest h = record { alike = refl; short = same-end h (nil ts) }
saves-many {r = r} ks aside g ts (x ∷ xs) rest (mid, hx, hm) =
    let a = g ts x mid hx in
    let b = saves-many {r = r} ks aside g mid xs rest hm in
    record { alike = ap (λ (z : Kinds). z ++ flat_map ks (map aside xs)) a.alike ∙ ap (λ (z : Kinds). ks x ++ z) b.alike; short = cat a.short b.short }

abbrev pub after : {A : Type 0} → TokenKind → (A → Kinds) → List A → Kinds
after k ks xs = preceded k (map ks xs)

pub saves-tail : {A : Type 0} {r : Rule A} (k : TokenKind) (ks : A → Kinds) (aside : A → A) → Saves r ks aside → Saves (many (token k >> r)) (after k ks) (map aside)
saves-tail k ks aside g ts [] rest h = record { alike = refl; short = same-end h (nil ts) }
saves-tail {r = r} k ks aside g ts (x ∷ xs) rest (mid, (at, m0, ht, hx), hm) =
    let a = g m0 x mid hx in
    let b = saves-tail {r = r} k ks aside g mid xs rest hm in
    record { alike = ap (λ (z : Kinds). k ∷ z ++ after k ks (map aside xs)) a.alike ∙ ap (λ (z : Kinds). k ∷ ks x ++ z) b.alike; short = cat (sign-before k at ht a.short) b.short }

abbrev pub listed : {A : Type 0} → (A → Kinds) → List A → Kinds
listed ks xs = s.separated comma (map ks xs)

pub saves-separated : {A : Type 0} {r : Rule A} (ks : A → Kinds) (aside : A → A) → Saves r ks aside → Saves (separated r) (listed ks) (map aside)
saves-separated {r = r} ks aside g ts z rest (x, mid, hx, (xs, end, hm, (e, d))) =
    let a = g ts x mid hx in
    let b = saves-tail {r = r} comma ks aside g mid xs end hm in
    finish e d (record { alike = ap (λ (z : Kinds). z ++ after comma ks (map aside xs)) a.alike ∙ ap (λ (z : Kinds). ks x ++ z) b.alike; short = cat a.short b.short })

pub saves-separated_or_none : {A : Type 0} {r : Rule A} (ks : A → Kinds) (aside : A → A) → Saves r ks aside → Saves (separated_or_none r) (listed ks) (map aside)
saves-separated_or_none {r = r} ks aside g ts z rest (inl h) = saves-separated {r = r} ks aside g ts z rest h
saves-separated_or_none {r = r} ks aside g ts z rest (inr (e, d)) = finish e d (record { alike = refl; short = nil ts })

-- ---- single tokens

pub saves-name : Saves name word_kinds word_aside
saves-name ts x rest h = record { alike = refl; short = name-before x h (nil rest) }

pub saves-names : Saves (separated name) names_kinds (map word_aside)
unfolding names_kinds
saves-names = saves-separated {r = name} word_kinds word_aside saves-name

-- a token that opens a level, and then more
pub opener-before : (n : ℕ) (k : TokenKind) (at : ℕ) {ks : Kinds} {ts mid rest : Tokens} → opener (λ at. 0) n k ts at mid → Short ks mid rest → Short (k ∷ ks) ts rest
opener-before n k at (a, m0, ht, (u, m1, (some, (e1, e2)), (e3, e4))) s = sign-before k a ht (same-start (sym (e2 ∙ e4)) s)

-- a name that was written before, and then more
pub same-before : (x y : Word) {k : TokenKind} {ks : Kinds} {ts mid rest : Tokens} → same_name x ts y mid → Short ks mid rest → Short (k ∷ ks) ts rest
same-before x y (v, m0, hv, (e, (d, r))) s = name-before v hv (same-start (sym r) s)
