-- The names of a reference in the order of their offsets.
use Rattle.std.proofs.Common.{◌≡◌, ℕ, suc, ◌+◌, ◌<◌, ◌≤◌, nat_lt, Bool, cond, List, [], ◌∷◌, ◌++◌, map, take, drop, refl, ap, sym, ◌∙◌, arith}
use Rattle.std.specs.List.{flat_map}
use Rattle.std.proofs.lemmas.Bool.{lt-ltb, le-ltb}
use Rattle.std.proofs.lemmas.Grind.{flat_map-append}
use Rattle.std.proofs.lemmas.List.Folds.{flat_map-map}
use Rattle.smv_core.specs.declared.token.TokenKind.TheVariants.{Ident}
use Rattle.smv_core.specs.declared.tree.Word.{Word}
use Rattle.smv_core.specs.Signs.{dot}
use Rattle.smv_core.specs.Grammar.{RefPart, Dotted, Bracketed, dotted, bracketed}
use Rattle.smv_print.specs.Written.{Kinds}
use Rattle.smv_print.specs.Items.{count_before, ref_parts, bracket, brackets}
use Rattle.law_print_and_parse.specs.Aside.{word_aside, interleaved, numbered}

-- ---- the tokens

abbrev pub ref_part_kinds : RefPart → Kinds
ref_part_kinds (Dotted x) = dot ∷ Ident x.name ∷ []
ref_part_kinds (Bracketed x) = bracket x

brackets-are : (names : List Word) → brackets names ≡ flat_map ref_part_kinds (map Bracketed names)
unfolding brackets
brackets-are names = sym (flat_map-map ref_part_kinds Bracketed names)

pub parts-are : (path names : List Word) → ref_parts path names ≡ flat_map ref_part_kinds (interleaved path names)
parts-are [] names = brackets-are names
parts-are (x ∷ path) names =
    let k : ℕ = count_before x.at names in
    ap (λ (ks : Kinds). brackets (take k names) ++ dot ∷ Ident x.name ∷ ks) (parts-are path (drop k names))
    ∙ ap (λ (ks : Kinds). ks ++ dot ∷ Ident x.name ∷ flat_map ref_part_kinds (interleaved path (drop k names))) (brackets-are (take k names))
    ∙ sym (flat_map-append ref_part_kinds (map Bracketed (take k names)) (Dotted x ∷ interleaved path (drop k names)))

-- ---- the same order

abbrev pub ref_part_aside : RefPart → RefPart
ref_part_aside (Dotted x) = Dotted (word_aside x)
ref_part_aside (Bracketed x) = Bracketed (word_aside x)

numbered-aside : (i : ℕ) (ps : List RefPart) → numbered i (map ref_part_aside ps) ≡ numbered i ps
numbered-aside i [] = refl
numbered-aside i (Dotted x ∷ more) = ap (λ (ps : List RefPart). Dotted (record { name = x.name; at = i }) ∷ ps) (numbered-aside (suc i) more)
numbered-aside i (Bracketed x ∷ more) = ap (λ (ps : List RefPart). Bracketed (record { name = x.name; at = i }) ∷ ps) (numbered-aside (suc i) more)

-- parts that are the same, places aside, are numbered alike
pub numbered-same : (i : ℕ) (ps qs : List RefPart) → map ref_part_aside ps ≡ map ref_part_aside qs → numbered i ps ≡ numbered i qs
numbered-same i ps qs e = sym (numbered-aside i ps) ∙ ap (numbered i) e ∙ numbered-aside i qs

-- the offsets of the names rise, from this one on
abbrev pub From : ℕ → List RefPart → Type 0
From low [] = Unit {0}
From low (Dotted x ∷ more) = (low ≤ x.at) × From (suc x.at) more
From low (Bracketed x ∷ more) = (low ≤ x.at) × From (suc x.at) more

-- no name in brackets comes before
none-before : (at low : ℕ) (ps : List RefPart) → at ≤ low → From low ps → count_before at (bracketed ps) ≡ 0
none-before at low [] l h = refl
none-before at low (Dotted x ∷ more) l h = let k = h.0 in none-before at (suc x.at) more (omega arith) h.1
none-before at low (Bracketed x ∷ more) l h = let k = h.0 in ap (λ (b : Bool). cond b (1 + count_before at (bracketed more)) 0) (le-ltb x.at at (omega arith))

-- the first name of a path comes later
abbrev Before : ℕ → List Word → Type 0
Before at [] = Unit {0}
Before at (y ∷ path) = at < y.at

first-after : (at low : ℕ) (ps : List RefPart) → at < low → From low ps → Before at (dotted ps)
first-after at low [] l h = tt
first-after at low (Dotted x ∷ more) l h = let k = h.0 in omega arith
first-after at low (Bracketed x ∷ more) l h = let k = h.0 in first-after at (suc x.at) more (omega arith) h.1

bracket-first : (x : Word) (path names : List Word) → Before x.at path → interleaved path (x ∷ names) ≡ Bracketed x ∷ interleaved path names
bracket-first x [] names h = refl
bracket-first x (y ∷ path) names h =
    let k : ℕ = count_before y.at names in
    let e : cond (nat_lt x.at y.at) (1 + k) 0 ≡ suc k = ap (λ (b : Bool). cond b (1 + k) 0) (lt-ltb x.at y.at h) ∙ omega arith in
    ap (λ (c : ℕ). map Bracketed (take c (x ∷ names)) ++ Dotted y ∷ interleaved path (drop c (x ∷ names))) e

dot-first : (x : Word) (path names : List Word) → count_before x.at names ≡ 0 → interleaved (x ∷ path) names ≡ Dotted x ∷ interleaved path names
dot-first x path names e = ap (λ (c : ℕ). map Bracketed (take c names) ++ Dotted x ∷ interleaved path (drop c names)) e

-- names whose offsets rise are in their order already
pub in-order : (low : ℕ) (ps : List RefPart) → From low ps → interleaved (dotted ps) (bracketed ps) ≡ ps
in-order low [] h = refl
in-order low (Dotted x ∷ more) h =
    dot-first x (dotted more) (bracketed more) (none-before x.at (suc x.at) more (omega arith) h.1) ∙ ap (λ (ps : List RefPart). Dotted x ∷ ps) (in-order (suc x.at) more h.1)
in-order low (Bracketed x ∷ more) h =
    bracket-first x (dotted more) (bracketed more) (first-after x.at (suc x.at) more (omega arith) h.1) ∙ ap (λ (ps : List RefPart). Bracketed x ∷ ps) (in-order (suc x.at) more h.1)
