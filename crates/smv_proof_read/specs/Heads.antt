-- The first line of a set.
use Rattle.std.specs.Prelude.{[]}
use Rattle.smv_proof.specs.Readings.{Begun}
use Rattle.smv_proof_read.specs.declared.lines.Head.{Head}

-- the set that it begins, of which all lines are due
abbrev pub begun_of : Head → Begun
begun_of head = record { set = record { unit = head.unit.now; number = head.number; root = head.root; nodes = [] }; due = head.count }
