use Rattle.std.proofs.Common.{◌≡◌, ◌++◌}
use Rattle.std.specs.List.{flat_map}
use Rattle.smv_core.specs.Values.{numbers_from}
use Rattle.smv_circuits.specs.Files.{input_name}
use Rattle.smv_circuits.proofs.writing.push_input_names.Given as goal

abbrev pub invariant-loop-bit : goal.invariant-loop-bit
invariant-loop-bit l = l.out.items ≡ l.initial.out.items ++ flat_map input_name (numbers_from 0 l.bit)
