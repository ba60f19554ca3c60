use Rattle.std.proofs.Common.{◌≡◌, ◌++◌, length, map, drop}
use Rattle.smv_reads.specs.Views.{classes_in}
use Rattle.smv_concrete.proofs.cases.class_counts.Given as goal

abbrev pub invariant-loop-p : goal.invariant-loop-p
invariant-loop-p l = l.counts.items ++ map (λ q. length (classes_in l.types q.over)) (drop l.p-index l.params) ≡ map (λ q. length (classes_in l.types q.over)) l.params
