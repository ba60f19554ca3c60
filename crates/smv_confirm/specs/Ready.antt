-- A plan of a text as it is decided at given sizes.
use Rattle.std.specs.Prelude.{◌≤◌, ℕ, [], length, slice_get, take, unwrap_or, IfSome}
use Rattle.smv_core.specs.Values.{Sizes}
use Rattle.smv_core.specs.declared.flat.Design.{Design}
use Rattle.smv_core.specs.declared.flat.Leaf.{Leaf}
use Rattle.smv_core.specs.declared.flat.SetInfo.{SetInfo}
use Rattle.smv_core.specs.declared.flat.Unit.{Unit}
use Rattle.smv_core.specs.declared.flat.Unit.TheVariants.{Claim}
use Rattle.smv_problem.specs.declared.report.Plan.{Plan}
use Rattle.law_obligations.specs.Covers.{AreApart}
use Rattle.law_obligations.specs.Outlines.{names_of, unit_in}
use Rattle.law_obligations.specs.Scripts.{HaveValues}
use Rattle.law_obligations.specs.Sets.{Has}
use Rattle.law_obligations.specs.Soundness.{AreSizes, params_of}
use Rattle.law_problems.specs.Parts.{IsFitDesign}
use Rattle.law_valid_texts.specs.Rooms.{IsWholePlan}
use Rattle.law_concrete.specs.Runs.{IsExact}

-- a design as the passes give it: exact at all its sizes, and no set type has more values than a class may count
pub record IsReadyDesign (d : Design) : Type 0 where
  pub is_exact : (sizes : Sizes) → AreSizes (names_of d) sizes → IsExact d sizes
  pub is_fit : IsFitDesign d
  pub are_apart : AreApart d.sets
  pub have_values : HaveValues d
  pub sizes : (info : SetInfo) → Has d.sets info → IfSome info.size (λ n. n ≤ 256)

-- a plan of such a design
pub record IsReady (plan : Plan) : Type 0 where
  pub is_whole : IsWholePlan plan
  pub is_design : IsReadyDesign plan.design

-- the unit at a place, and its leaf without what splits add
abbrev pub unit_at : Plan → ℕ → Unit
unit_at plan place = unwrap_or (slice_get plan.units place) (Claim 0)

abbrev pub leaf_at : Plan → ℕ → Leaf
leaf_at plan place = unwrap_or (slice_get plan.leaves place) (record { unit = 0; name = []; params = []; guards = [] })

abbrev pub own_of : Plan → ℕ → Leaf
own_of plan place = record {
  unit = (leaf_at plan place).unit;
  name = [];
  params = take (length (params_of (names_of plan.design) (unit_in plan.design (unit_at plan place)))) (leaf_at plan place).params;
  guards = [];
}
