use Rattle.std.proofs.Common.{◌≡◌, drop}
use Rattle.std.specs.List.{list_any}
use Rattle.smv_reads.specs.Views.{bind_spot}
use Rattle.smv_reads.specs.Reading.{counts_in, counts_over}
use Rattle.smv_reads.proofs.counts.+counts.Given as goal

abbrev pub invariant-some_counts-loop-part : goal.invariant-some_counts-loop-part
invariant-some_counts-loop-part l = list_any (counts_in l.view l.own l.bindings) (drop l.part-index l.parts) ≡ list_any (counts_in l.view l.own l.bindings) l.parts

abbrev pub invariant-counts_over-loop-p : goal.invariant-counts_over-loop-p
invariant-counts_over-loop-p l = list_any (λ p. counts_in l.view l.own (bind_spot l.bindings l.var p) l.body) (drop l.p-index l.p-items) ≡ counts_over l.view l.own l.bindings l.var l.fn.over l.body
