use Rattle.std.proofs.Common.{◌∙◌, arith, sym}
use Rattle.smv_lex.proofs.Fronts.{closing-more}
use Rattle.smv_lex.proofs.front.end_of_comment.Goals as goal

pub loop-at-preserved : goal.loop-at-preserved
loop-at-preserved c = record {
  within = omega arith;
  end = closing-more c.args.bytes.now c.loop-at.at (omega arith) (rw (← c.split_at.ensures.back) (sym c.starts_with.ensures.value ∙ c.if-starts_with.false)) ∙ c.loop-at.invariant.end;
}
