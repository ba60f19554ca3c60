-- A byte parts pieces or belongs to the last.
use Rattle.std.proofs.Common.{arith, rules}
use Rattle.smv_read_report.proofs.Cut.{next_byte, next_piece}
use Rattle.smv_read_report.proofs.pieces.pieces.Goals as goal
use Rattle.smv_read_report.proofs.pieces.pieces.Goals.{then-byte-at+in_ok-push, else-byte-at+in_ok-push-2}

pub loop-byte-preserved : goal.loop-byte-preserved
loop-byte-preserved c = elim c.if-byte-at.branch [
  | then-byte-at+in_ok-push w ↦
      next_piece c.args.at c.args.bytes.now c.loop-byte.byte-index c.loop-byte.found.items c.if-byte-at.found.items c.loop-byte.piece.items c.if-byte-at.piece.items (omega arith) c.loop-byte.invariant w.if-byte-at.true (search rules) (search rules)
  | else-byte-at+in_ok-push-2 w ↦
      next_byte c.args.at c.args.bytes.now c.loop-byte.byte-index c.loop-byte.found.items c.if-byte-at.found.items c.loop-byte.piece.items c.if-byte-at.piece.items (omega arith) c.loop-byte.invariant w.if-byte-at.false (search rules) (search rules)
]
