-- What follows where operands have kinds.
use Rattle.std.proofs.Common.{◌≡◌, List, [], ◌∷◌, Option, Some, None, is_some, Bool, true, false, ◌&&◌, if◌then◌else◌, refl}
use Rattle.std.specs.List.{list_all}
use Rattle.std.proofs.lemmas.Bool.{and_parts, and_from}
use Rattle.smv_core.specs.declared.tree.Op.{Op}
use Rattle.smv_core.specs.declared.tree.Op.TheVariants as op
use Rattle.smv_core.specs.declared.flat.Simple.{Simple}
use Rattle.smv_core.specs.declared.flat.Family.{Family}
use Rattle.law_designs.specs.FlatKinds.{FlatKind, number, kind_of, takes, joins, joined, are_numbers, number_if, common_after, common, has_order, compares, chosen, element, take_each}

-- ---- tests

-- each of these operands has a kind
abbrev pub all-some : List (Option FlatKind) → Bool
all-some es = list_all is_some es

pub takes-some : (k : FlatKind) (o : Option FlatKind) → takes k o ≡ true → is_some o ≡ true
takes-some k None e = absurd (cc (e))
takes-some k (Some other) e = refl

pub numbers-some : (es : List (Option FlatKind)) → are_numbers es ≡ true → all-some es ≡ true
numbers-some [] e = refl
numbers-some (o ∷ es) e = let g : (takes number o ≡ true) × (are_numbers es ≡ true) = and_parts _ _ e in and_from (is_some o) (all-some es) (takes-some number o g.0) (numbers-some es g.1)

pub each-some : (over : List Simple) (es : List (Option FlatKind)) → take_each over es ≡ true → all-some es ≡ true
each-some [] [] e = refl
each-some [] (o ∷ es) e = absurd (cc (e))
each-some (t ∷ over) [] e = absurd (cc (e))
each-some (t ∷ over) (o ∷ es) e = let g : (takes (kind_of t) o ≡ true) × (take_each over es ≡ true) = and_parts _ _ e in and_from (is_some o) (all-some es) (takes-some (kind_of t) o g.0) (each-some over es g.1)

-- what there is only under a test
pub if-some : {X : Type 0} (b : Bool) (o : Option X) → is_some (if b then o else None) ≡ true → (b ≡ true) × (is_some o ≡ true)
if-some true o e = (refl, e)
if-some false o e = absurd (cc (e))

pub after-some : (kind : FlatKind) (es : List (Option FlatKind)) → is_some (common_after kind es) ≡ true → all-some es ≡ true
after-some kind [] e = refl
after-some kind (None ∷ more) e = absurd (cc (e))
after-some kind (Some other ∷ more) e = after-some (joined kind other) more (if-some (joins kind other) (common_after (joined kind other) more) e).1

pub common-some : (es : List (Option FlatKind)) → is_some (common es) ≡ true → all-some es ≡ true
common-some [] e = refl
common-some (None ∷ more) e = absurd (cc (e))
common-some (Some kind ∷ more) e = after-some kind more e

pub number_if-true : (b : Bool) → is_some (number_if b) ≡ true → b ≡ true
number_if-true true e = refl
number_if-true false e = absurd (cc (e))

pub order-some : (o : Option FlatKind) → has_order o ≡ true → is_some o ≡ true
order-some None e = absurd (cc (e))
order-some (Some kind) e = refl

pub compares-some : (op : Op) (o : Option FlatKind) → compares op o ≡ true → is_some o ≡ true
compares-some op.Equal o e = e
compares-some op.Differ o e = e
compares-some op.Less o e = order-some o e
compares-some op.AtMost o e = order-some o e
compares-some op.Greater o e = order-some o e
compares-some op.AtLeast o e = order-some o e

pub two-some : (left right : Option FlatKind) → all-some (left ∷ right ∷ []) ≡ true → (is_some left ≡ true) × (is_some right ≡ true)
two-some left right e = let h : (is_some left ≡ true) × ((is_some right && true) ≡ true) = and_parts _ _ e in (h.0, (and_parts (is_some right) true h.1).0)

-- the two branches and the condition of what is chosen have kinds
pub chosen-some : (cond left right : Option FlatKind) → is_some (chosen cond left right) ≡ true → (is_some cond ≡ true) × (is_some left ≡ true) × (is_some right ≡ true)
chosen-some cond left right e =
    let t : (takes number cond ≡ true) × (is_some (common (left ∷ right ∷ [])) ≡ true) = if-some (takes number cond) (common (left ∷ right ∷ [])) e in
    let h : (is_some left ≡ true) × (is_some right ≡ true) = two-some left right (common-some (left ∷ right ∷ []) t.1) in
    (takes-some number cond t.0, h.0, h.1)

-- an element that has a kind is of a family, with one index for each type
pub element-some : (o : Option Family) (es : List (Option FlatKind)) → is_some (element o es) ≡ true → (f : Family) × (o ≡ Some f) × (take_each f.over es ≡ true)
element-some None es e = absurd (cc (e))
element-some (Some f) es e = (f, refl, (if-some (take_each f.over es) (Some (kind_of f.value)) e).0)
