use Rattle.std.specs.Prelude.{◌≡◌, ◌++◌, drop}
use Rattle.smv_read_report.specs.Pieces.{led, pieces}
use Rattle.smv_read_report.proofs.pieces.pieces.Given as goal

abbrev pub invariant-loop-byte : goal.invariant-loop-byte
invariant-loop-byte l = l.found.items ++ led l.piece.items (pieces l.at (drop l.byte-index l.bytes)) ≡ pieces l.at l.bytes
