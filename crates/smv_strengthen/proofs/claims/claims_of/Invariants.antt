use Rattle.std.proofs.Common.{◌≡◌, ◌++◌, drop}
use Rattle.std.specs.List.{flat_map}
use Rattle.smv_strengthen.specs.Claims.{top_candidates}
use Rattle.smv_strengthen.proofs.claims.claims_of.Given as goal

abbrev pub invariant-loop-top : goal.invariant-loop-top
invariant-loop-top l = l.out.items ++ flat_map (top_candidates l.name l.var) (drop l.top-index l.tops) ≡ flat_map (top_candidates l.name l.var) l.tops
