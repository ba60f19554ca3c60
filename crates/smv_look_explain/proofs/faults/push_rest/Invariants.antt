use Rattle.std.proofs.Common.{◌≡◌, ◌++◌, drop}
use Rattle.smv_look_explain.specs.Faults.{rest_of_line}
use Rattle.smv_look_explain.proofs.faults.push_rest.Given as goal

abbrev pub invariant-loop-byte : goal.invariant-loop-byte
invariant-loop-byte l = l.out.items ++ rest_of_line (drop l.byte-index l.text) ≡ l.initial.out.items ++ rest_of_line l.text
