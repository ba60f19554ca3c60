use Rattle.std.proofs.Common.{◌≡◌, ◌++◌, drop}
use Rattle.smv_name_numbers.proofs.push_names.Given as goal

abbrev pub invariant-loop-name : goal.invariant-loop-name
invariant-loop-name l = l.index ++ drop l.name-index l.names ≡ l.initial.index ++ l.names
