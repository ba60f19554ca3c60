use Rattle.std.proofs.Common.{◌≡◌, ◌++◌, drop}
use Rattle.std.specs.List.{flat_map}
use Rattle.smv_circuits.specs.Files.{literal_line}
use Rattle.smv_circuits.proofs.writing.push_literals.Given as goal

abbrev pub invariant-loop-literal : goal.invariant-loop-literal
invariant-loop-literal l = l.out.items ++ flat_map literal_line (drop l.literal-index l.literals) ≡ l.initial.out.items ++ flat_map literal_line l.literals
