-- The unit at a place of a plan, and its own parameters.
use Rattle.std.proofs.Common.{◌≡◌, ◌<◌, ℕ, List, [], ◌∷◌, ◌++◌, map, take, length, slice_get, Option, Some, refl, sym, ap, ◌∙◌, arith}
use Rattle.std.specs.Prelude.{unwrap_or}
use Rattle.law_lists.proofs.Lists.{map-take}
use Rattle.law_lists.proofs.Places.{get_there}
use Rattle.smv_core.specs.declared.flat.Choice.{Choice}
use Rattle.smv_core.specs.declared.flat.Leaf.{Leaf}
use Rattle.smv_core.specs.declared.flat.Param.{Param}
use Rattle.smv_core.specs.declared.flat.Simple.{Simple}
use Rattle.smv_core.specs.declared.flat.Unit.{Unit as DesignUnit}
use Rattle.smv_core.specs.declared.flat.Unit.TheVariants.{Claim}
use Rattle.law_obligations.specs.Checked.{IsSplit}
use Rattle.law_obligations.specs.Outlines.{names_of, unit_in}
use Rattle.law_obligations.specs.Soundness.{params_of}
use Rattle.law_obligations.specs.Units.{script_of}
use Rattle.law_problems.specs.Parts.{IsPart, entry_of}
use Rattle.law_valid_texts.specs.Rooms.{IsWholePlan}
use Rattle.smv_problem.specs.declared.report.Plan.{Plan}
use Rattle.smv_confirm.specs.Ready.{leaf_at, own_of, unit_at}

pub take-front : {X : Type 0} (xs ys : List X) → take (length xs) (xs ++ ys) ≡ xs
take-front [] [] = refl
take-front [] (y ∷ ys) = refl
take-front (x ∷ xs) ys = ap (λ zs. x ∷ zs) (take-front xs ys)

module _ (plan : Plan) (whole : IsWholePlan plan) (place : ℕ) (there : place < length plan.units) where
  pub leaf : (x : Leaf) × (slice_get plan.leaves place ≡ Some x)
  leaf = get_there plan.leaves place (let same = whole.leaves in omega (arith, same, there))

  pub choice : (x : Choice) × (slice_get plan.choices place ≡ Some x)
  choice = get_there plan.choices place (let same = whole.choices in omega (arith, same, there))

  pub part : IsPart plan.design leaf.0 choice.0
  part = whole.parts place leaf.0 choice.0 leaf.1 choice.1

  leaf-is : leaf_at plan place ≡ leaf.0
  leaf-is = ap (λ (o : Option Leaf). unwrap_or o (record { unit = 0; name = []; params = []; guards = [] })) leaf.1

  -- the unit of the leaf there
  pub unit-is : unwrap_or (slice_get plan.units (own_of plan place).unit) (Claim 0) ≡ unit_at plan place
  unit-is = ap (λ (k : ℕ). unwrap_or (slice_get plan.units k) (Claim 0)) (ap (λ (x : Leaf). x.unit) leaf-is ∙ whole.own place leaf.0 leaf.1)

  entry-unit : (entry_of plan.design leaf.0 choice.0).unit ≡ unit_at plan place
  entry-unit = ap (λ (us : List DesignUnit). unwrap_or (slice_get us leaf.0.unit) (Claim 0)) (sym whole.units) ∙ ap (λ (k : ℕ). unwrap_or (slice_get plan.units k) (Claim 0)) (whole.own place leaf.0 leaf.1)

  split : IsSplit (script_of plan.design part.leaves part.choices) (entry_of plan.design leaf.0 choice.0)
  split = part.is_checked.are_split (entry_of plan.design leaf.0 choice.0) part.is_entry

  abbrev types : List Simple
  types = params_of (names_of plan.design) (unit_in plan.design (unit_at plan place))

  -- its parameters begin with those of the unit
  pub own-types : map (λ (q : Param). q.over) (own_of plan place).params ≡ types
  own-types = map-take (λ (q : Param). q.over) (length types) (leaf_at plan place).params
      ∙ (ap (λ (x : Leaf). take (length types) (map (λ (q : Param). q.over) x.params)) leaf-is
      ∙ (ap (take (length types)) (split.are_params ∙ ap (λ (u : DesignUnit). params_of (names_of plan.design) (unit_in plan.design u) ++ split.added) entry-unit) ∙ take-front types split.added))

  -- so it is where the units and the leaf are looked up beside the plan
  pub unit-of : (units : List DesignUnit) (own : Leaf) → units ≡ plan.units → own ≡ own_of plan place → unwrap_or (slice_get units own.unit) (Claim 0) ≡ unit_at plan place
  unit-of units own us is = ap (λ (list : List DesignUnit). unwrap_or (slice_get list own.unit) (Claim 0)) us ∙ (ap (λ (x : Leaf). unwrap_or (slice_get plan.units x.unit) (Claim 0)) is ∙ unit-is)

  pub params-of : (units : List DesignUnit) (own : Leaf) → units ≡ plan.units → own ≡ own_of plan place → map (λ (q : Param). q.over) own.params ≡ params_of (names_of plan.design) (unit_in plan.design (unwrap_or (slice_get units own.unit) (Claim 0)))
  params-of units own us is = ap (λ (x : Leaf). map (λ (q : Param). q.over) x.params) is ∙ (own-types ∙ ap (λ (u : DesignUnit). params_of (names_of plan.design) (unit_in plan.design u)) (sym (unit-of units own us is)))
