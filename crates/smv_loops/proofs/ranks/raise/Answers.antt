use Rattle.std.proofs.Common.{sym, ◌∙◌, arith}
use Rattle.smv_loops.proofs.RankLaws.{so_far_raised, so_far_kept}
use Rattle.smv_loops.proofs.ranks.raise.Goals as goal
use Rattle.smv_loops.proofs.ranks.raise.Goals.{then-ranks-cell-eq0+then-not-has_flag, else-ranks-cell-eq0, else-ranks-cell-eq0-via-then-ranks-cell-eq0+else-not-has_flag, else-ranks-cell-eq0-via-else-ranks-cell-eq0}

pub loop-cell-preserved : goal.loop-cell-preserved
loop-cell-preserved c = elim c.if-ranks-cell-eq0.branch [
  | then-ranks-cell-eq0+then-not-has_flag w ↦
      so_far_raised c.args.flags.now c.args.next c.args.ranks.now c.loop-cell.cell c.loop-cell.ranks c.loop-cell.moved c.loop-cell.invariant c.if-ranks-cell-eq0.ranks c.if-ranks-cell-eq0.moved w.ranks-is w.moved-is
      w.if-ranks-cell-eq0.true (sym w.has_flag.ensures ∙ w.if-not-has_flag.true) (omega arith) c.requires
  | else-ranks-cell-eq0 w ↦
      so_far_kept c.args.flags.now c.args.next c.args.ranks.now c.loop-cell.cell c.loop-cell.ranks c.loop-cell.moved c.loop-cell.invariant c.if-ranks-cell-eq0.ranks c.if-ranks-cell-eq0.moved w.ranks-is w.moved-is
      (λ z. elim w.else-ranks-cell-eq0.branch [
        | else-ranks-cell-eq0-via-then-ranks-cell-eq0+else-not-has_flag v ↦ sym v.has_flag.ensures ∙ v.if-not-has_flag.false
        | else-ranks-cell-eq0-via-else-ranks-cell-eq0 v ↦ absurd (v.if-ranks-cell-eq0.false z)
      ])
]
