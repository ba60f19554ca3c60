use Rattle.std.proofs.Common.{◌∙◌, sym}
use Rattle.smv_proof_read.proofs.OldDocuments.{old_length_one, old_length_other, old_length_said}
use Rattle.smv_proof_read.proofs.olds.old_length.Goals as goal

pub returns-in_err-word : goal.returns-in_err-word
returns-in_err-word c = c.from_residual.ensures ∙ sym (old_length_one c.args.line.now (sym c.in_err-word.ensures.cut))

pub returns-then-not-is_old : goal.returns-then-not-is_old
returns-then-not-is_old c = sym (old_length_other c.args.line.now c.in_ok-word.word.now c.in_ok-word.number.now (sym c.in_ok-word.ensures.cut) (sym c.is_old.ensures ∙ c.if-not-is_old.true))

pub returns : goal.returns
returns c = c.number_of.ensures ∙ sym (old_length_said c.args.line.now c.in_ok-word.word.now c.in_ok-word.number.now (sym c.in_ok-word.ensures.cut) (sym c.is_old.ensures ∙ c.if-not-is_old.false))
