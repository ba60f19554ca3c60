use Rattle.std.proofs.Common.{◌≡◌, ◌++◌, drop, map}
use Rattle.smv_look_explain.specs.Faults.{blank_for}
use Rattle.smv_look_explain.proofs.faults.push_blanks.Given as goal

abbrev pub invariant-loop-byte : goal.invariant-loop-byte
invariant-loop-byte l = l.out.items ++ map blank_for (drop l.byte-index l.front) ≡ l.initial.out.items ++ map blank_for l.front
