-- Assignments are counted statement by statement, and places are given item by item.
use Rattle.std.proofs.Common.{◌≡◌, ℕ, ◌+◌, List, [], ◌∷◌, ◌++◌, ◌<◌, suc, length, sum_by, take, drop, drop-cons, get_or, refl, sym, ap, ◌∙◌, add-zero, arith}
use Rattle.std.proofs.Math.ListN.{set}
use Rattle.std.proofs.Math.Seq.{take-suc-set}
use Rattle.std.proofs.lemmas.List.{length-append, append_assoc, drop-set-lt}
use Rattle.std.specs.List.{flat_map}
use Rattle.std.proofs.lemmas.List.Concat.{length-flat_map}
use Rattle.smv_core.specs.declared.tree.Kind.{Kind}
use Rattle.smv_core.specs.declared.flat.Simple.{Simple}
use Rattle.smv_core.specs.declared.flat.FlatExpr.{FlatExpr}
use Rattle.smv_core.specs.declared.flat.FlatStmt.{FlatStmt, Assign, If, Block, Block', Default, Forall, Row_of-FlatStmt, end_of-FlatStmt, more_of-FlatStmt, items-the_row-FlatStmt, items_hidden-the_row-FlatStmt-1}
use Rattle.smv_core.specs.declared.flat.FlatItem.{FlatItem}
use Rattle.smv_core.specs.declared.flat.FlatItem.TheVariants.{Act, Claim, Split, Using}
use mathlib.Core.Former.{Count}
use Rattle.law_designs.specs.Flattening.{flat_assignments, flat_assignments_in, with_places}
use Rattle.law_designs.proofs.FlatLists.{boxes}
use Rattle.smv_flatten.specs.Places.{assignments_in, weight, with_place}

pub count-Assign : (kind : Kind) (family : ℕ) (left : List FlatExpr) (value : FlatExpr) (at : ℕ) → assignments_in (Assign kind family left value at) ≡ 1
unfolding assignments_in
count-Assign kind family left value at = refl

pub count-If : (cond : FlatExpr) (x y : FlatStmt) → assignments_in (If cond x y) ≡ assignments_in x + assignments_in y
unfolding assignments_in boxes
count-If cond x y = length-append (flat_assignments x) (flat_assignments y)

pub count-Default : (x y : FlatStmt) → assignments_in (Default x y) ≡ assignments_in x + assignments_in y
unfolding assignments_in boxes
count-Default x y = length-append (flat_assignments x) (flat_assignments y)

pub count-Forall : (var : ℕ) (over : Simple) (x : FlatStmt) → assignments_in (Forall var over x) ≡ assignments_in x
unfolding assignments_in boxes
count-Forall var over x = refl

assignments-row : (n : _) (row : Row_of-FlatStmt n) → flat_assignments_in row ≡ flat_map flat_assignments (items-the_row-FlatStmt n row)
assignments-row n end_of-FlatStmt = refl
assignments-row n (more_of-FlatStmt part rest) = ap (λ l. flat_assignments part ++ l) (assignments-row _ rest)

abbrev parts_of : FlatStmt → (n : Count) × Row_of-FlatStmt n
parts_of (Block' shape row) = (_, row)
parts_of _ = (_, end_of-FlatStmt)

pub count-Block : (parts : List FlatStmt) → assignments_in (Block parts) ≡ sum_by assignments_in parts
unfolding assignments_in
count-Block parts =
    ap length (assignments-row (parts_of (Block parts)).0 (parts_of (Block parts)).1 ∙ ap (flat_map flat_assignments) (items_hidden-the_row-FlatStmt-1 parts)) ∙ length-flat_map flat_assignments parts

pub ruleset counts = (count-Assign, count-If, count-Default, count-Forall, count-Block)

pub places-cons : (k : ℕ) (x : FlatItem) (xs : List FlatItem) → with_places k (x ∷ xs) ≡ with_place k x ∷ with_places (k + weight x) xs
unfolding assignments_in
places-cons k (Act number act) xs = refl
places-cons k (Claim c) xs = refl
places-cons k (Split c) xs = ap (λ n. Split c ∷ with_places n xs) (sym (add-zero k))
places-cons k (Using c) xs = ap (λ n. Using c ∷ with_places n xs) (sym (add-zero k))

-- one item more has its place
pub placed-step : (items done : List FlatItem) (i k next : ℕ) (old new : FlatItem) → i < length items → old ≡ get_or items i old → new ≡ with_place k old → next ≡ k + weight old →
    take i items ++ with_places k (drop i items) ≡ done → take (i + 1) (set items i new) ++ with_places next (drop (i + 1) (set items i new)) ≡ done
placed-step items done i k next old new lt is placed counted so_far =
    let one : suc i ≡ i + 1 = omega arith in
    let front : take (i + 1) (set items i new) ≡ take i items ++ new ∷ [] = ap (λ n. take n (set items i new)) (sym one) ∙ take-suc-set items i new lt in
    let below : i < i + 1 = omega arith in
    let back : drop (i + 1) (set items i new) ≡ drop (i + 1) items = drop-set-lt (i + 1) items i new below in
    let here : drop i items ≡ old ∷ drop (i + 1) items = drop-cons items i old lt ∙ ap (λ n. get_or items i old ∷ drop n items) one ∙ ap (λ x. x ∷ drop (i + 1) items) (sym is) in
    let rest : with_places k (drop i items) ≡ new ∷ with_places next (drop (i + 1) items) =
    ap (with_places k) here ∙ places-cons k old (drop (i + 1) items) ∙ ap (λ x. x ∷ with_places (k + weight old) (drop (i + 1) items)) (sym placed) ∙ ap (λ n. new ∷ with_places n (drop (i + 1) items)) (sym counted) in
    ap (λ l. l ++ with_places next (drop (i + 1) (set items i new))) front ∙ ap (λ l. (take i items ++ new ∷ []) ++ with_places next l) back
    ∙ append_assoc (take i items) (new ∷ []) (with_places next (drop (i + 1) items)) ∙ ap (λ l. take i items ++ l) (sym rest) ∙ so_far

pub ruleset places = (places-cons)
