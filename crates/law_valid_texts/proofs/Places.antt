-- The leaves of a design, each at the place of its unit, and the leaves and choices of a text's plan.
use Rattle.std.proofs.Common.{◌≡◌, ◌∙◌, ℕ, zero, suc, ◌+◌, List, [], ◌∷◌, zip, length, Some, sym, ap, subst, arith}
use Rattle.std.specs.List.{slice_get}
use Rattle.law_lists.proofs.Options.{some_is}
use Rattle.smv_core.specs.declared.tree.Text.{Text}
use Rattle.smv_core.specs.declared.flat.Design.{Design}
use Rattle.smv_core.specs.declared.flat.Unit.{Unit}
use Rattle.smv_core.specs.declared.flat.Leaf.{Leaf}
use Rattle.law_obligations.specs.Sets.{Has, first, later}
use Rattle.law_obligations.specs.Units.{units_of}
use Rattle.law_splits.specs.Leaves.{leaves_from, leaves_of}
use Rattle.law_splits.proofs.Splits.{one_each}
use Rattle.smv_problem.specs.declared.report.Plan.{Plan}
use Rattle.law_valid_texts.specs.Plans.{IsPlanOf}
use Rattle.law_valid_texts.specs.PartLaws.{LeavesAreInPlace}

-- the leaf at a place counts from the first
from_place : (d : Design) (u : ℕ) (units : List Unit) (k : ℕ) (leaf : Leaf) → slice_get (leaves_from d u units) k ≡ Some leaf → leaf.unit ≡ u + k
from_place d u [] k leaf e = absurd (cc (e))
from_place d u (unit ∷ units) zero leaf e =
    let same : leaf.unit ≡ u = ap (λ (l : Leaf). l.unit) (sym (some_is e)) in
    omega (arith, same)
from_place d u (unit ∷ units) (suc k) leaf e = let r = from_place d (suc u) units k leaf e in omega (arith, r)

pub leaves_are_in_place : LeavesAreInPlace
leaves_are_in_place tree plan is u leaf e =
    let there : slice_get (leaves_of plan.design) u ≡ Some leaf = subst (λ (leaves : List Leaf). slice_get leaves u ≡ Some leaf) is.leaves e in
    let place = from_place plan.design 0 (units_of plan.design) u leaf there in
    omega (arith, place)

pub each_leaf : (tree : Text) (plan : Plan) → IsPlanOf tree plan → length plan.leaves ≡ length (units_of plan.design)
each_leaf tree plan is = ap (λ (leaves : List Leaf). length leaves) is.leaves ∙ one_each plan.design 0 (units_of plan.design)

pub each_choice : (tree : Text) (plan : Plan) → IsPlanOf tree plan → length plan.choices ≡ length (units_of plan.design)
each_choice tree plan is = is.choices ∙ ap (λ (units : List Unit). length units) is.units

-- what stands at one place of two lists stands beside each other
pub beside : {X Y : Type 0} (xs : List X) (ys : List Y) (k : ℕ) (x : X) (y : Y) → slice_get xs k ≡ Some x → slice_get ys k ≡ Some y → Has (zip xs ys) (x, y)
beside [] ys k x y e i = absurd (cc (e))
beside (w ∷ xs) [] k x y e i = absurd (cc (i))
beside (w ∷ xs) (z ∷ ys) zero x y e i = subst (λ v. Has (zip (w ∷ xs) (z ∷ ys)) (v, y)) (some_is e) (subst (λ v. Has (zip (w ∷ xs) (z ∷ ys)) (w, v)) (some_is i) first)
beside (w ∷ xs) (z ∷ ys) (suc k) x y e i = later (beside xs ys k x y e i)
