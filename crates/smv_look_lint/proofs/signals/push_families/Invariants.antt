use Rattle.std.proofs.Common.{◌≡◌, ◌++◌, drop, map}
use Rattle.std.specs.List.{flat_map}
use Rattle.smv_loops.specs.Held.{reference_of}
use Rattle.smv_look_lint.specs.Signals.{families_of}
use Rattle.smv_look_lint.proofs.signals.push_families.Given as goal

abbrev pub invariant-loop-read : goal.invariant-loop-read
invariant-loop-read l = l.out.items ++ families_of (map reference_of (drop l.read-index l.reads)) ≡ l.initial.out.items ++ families_of (map reference_of l.reads)
