use Rattle.std.proofs.Common.{◌≡◌, ◌++◌, drop}
use Rattle.smv_plans.specs.Units.{claims_from}
use Rattle.smv_plans.proofs.units.add_claims.Given as goal

abbrev pub invariant-loop-index : goal.invariant-loop-index
invariant-loop-index l = l.out.items ++ claims_from l.index (drop l.index l.design.claims) ≡ l.initial.out.items ++ claims_from 0 l.design.claims
