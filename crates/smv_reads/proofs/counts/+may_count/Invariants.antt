use Rattle.std.proofs.Common.{◌≡◌, drop}
use Rattle.std.specs.List.{list_any}
use Rattle.smv_reads.specs.Views.{places}
use Rattle.smv_reads.specs.Counts.{may_count}
use Rattle.smv_reads.proofs.counts.+may_count.Given as goal

abbrev pub invariant-some_may_count-loop-part : goal.invariant-some_may_count-loop-part
invariant-some_may_count-loop-part l = list_any (may_count (places l.view l.own) (places l.view l.bindings)) (drop l.part-index l.parts) ≡ list_any (may_count (places l.view l.own) (places l.view l.bindings)) l.parts
