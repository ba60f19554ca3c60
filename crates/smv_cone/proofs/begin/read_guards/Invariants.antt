use Rattle.std.proofs.Common.{◌≡◌, drop}
use Rattle.std.specs.List.{flat_map}
use Rattle.smv_elements.specs.Elements.{put_all}
use Rattle.smv_reads.specs.Reading.{read_in}
use Rattle.smv_cone.proofs.begin.read_guards.Given as goal

abbrev pub invariant-loop-guard : goal.invariant-loop-guard
invariant-loop-guard l =
    put_all l.found (flat_map (λ g. read_in l.part.view l.part.params.now g.expr) (drop l.guard-index l.guard-items)) ≡ put_all l.initial.found (flat_map (λ g. read_in l.part.view l.part.params.now g.expr) l.guard-items)
