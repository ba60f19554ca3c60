use Rattle.std.proofs.Common.{◌≡◌, ◌++◌, drop}
use Rattle.smv_reads.specs.Reading.{choices_in}
use Rattle.smv_reads.proofs.indexes.choices.Given as goal

abbrev pub invariant-loop-place : goal.invariant-loop-place
invariant-loop-place l = l.choices.items ++ choices_in l.view l.bindings (drop l.place l.indexes) (drop l.place l.over) ≡ choices_in l.view l.bindings l.indexes l.over
