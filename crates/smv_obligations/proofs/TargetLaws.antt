-- What the unit of a leaf says, looked up.
use Rattle.std.proofs.Common.{◌≡◌, ℕ, [], slice_get, Option, Some, None, ap}
use Rattle.smv_core.specs.declared.flat.Def.{Def}
use Rattle.smv_core.specs.declared.flat.Claim.{Claim as FlatClaim}
use Rattle.smv_core.specs.declared.flat.FlatExpr.{Number}
use Rattle.smv_core.specs.declared.flat.Unit.TheVariants.{Map, Claim}
use Rattle.law_obligations.specs.Outlines.{unit_in, as_map, as_claim}
use Rattle.smv_problem.specs.declared.problem.Demand.TheVariants.{Holds}
use Rattle.smv_cone.specs.declared.parts.Part.{Part}
use Rattle.smv_obligations.specs.Demands.{defined_in, own_indexes, target_in}

module _ (p : Part) (k : ℕ) where
  pub no-map-target : slice_get p.view.design.now.defs k ≡ None → target_in p (unit_in p.view.design.now (Map k)) ≡ Holds (Number 1 0) []
  no-map-target e = ap (λ (o : Option Def). target_in p (as_map o)) e

  pub map-target : (def : Def) → slice_get p.view.design.now.defs k ≡ Some def → target_in p (unit_in p.view.design.now (Map k)) ≡ defined_in def (own_indexes p def)
  map-target def e = ap (λ (o : Option Def). target_in p (as_map o)) e

  pub no-claim-target : slice_get p.view.design.now.claims k ≡ None → target_in p (unit_in p.view.design.now (Claim k)) ≡ Holds (Number 1 0) []
  no-claim-target e = ap (λ (o : Option FlatClaim). target_in p (as_claim o)) e

  pub claim-target : (claim : FlatClaim) → slice_get p.view.design.now.claims k ≡ Some claim → target_in p (unit_in p.view.design.now (Claim k)) ≡ target_in p (as_claim (Some claim))
  claim-target claim e = ap (λ (o : Option FlatClaim). target_in p (as_claim o)) e
