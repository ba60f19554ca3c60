use Rattle.std.proofs.Common.{◌≡◌, ◌++◌, drop, map}
use Rattle.std.specs.List.{flat_map}
use Rattle.smv_loops.specs.Held.{reference_of}
use Rattle.smv_look_lint.specs.Signals.{other_families}
use Rattle.smv_look_lint.proofs.signals.push_others.Given as goal

abbrev pub invariant-loop-read : goal.invariant-loop-read
invariant-loop-read l = l.out.items ++ other_families l.own (map reference_of (drop l.read-index l.reads)) ≡ l.initial.out.items ++ other_families l.own (map reference_of l.reads)
