use Rattle.std.proofs.Common.{◌≡◌, drop}
use Rattle.std.specs.List.{flat_map}
use Rattle.smv_elements.specs.Elements.{put_all}
use Rattle.smv_cone.specs.Begins.{read_assumed}
use Rattle.smv_cone.proofs.begin.read_claims.Given as goal

abbrev pub invariant-loop-used : goal.invariant-loop-used
invariant-loop-used l = put_all l.found (flat_map (λ used. read_assumed l.part used.claim) (drop l.used-index l.used-items)) ≡ put_all l.initial.found (flat_map (λ used. read_assumed l.part used.claim) l.used-items)
