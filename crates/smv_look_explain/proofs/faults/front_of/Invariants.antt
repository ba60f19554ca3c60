use Rattle.std.proofs.Common.{◌≡◌, take}
use Rattle.smv_look_explain.specs.Faults.{last_line}
use Rattle.smv_look_explain.proofs.faults.front_of.Given as goal

abbrev pub invariant-loop-byte : goal.invariant-loop-byte
invariant-loop-byte l = l.front.items ≡ last_line (take l.byte-index l.byte-items)
