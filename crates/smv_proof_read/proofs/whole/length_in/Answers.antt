use Rattle.std.proofs.Common.{◌∙◌, sym}
use Rattle.smv_proof_read.proofs.Fronts.{length_one, length_other, length_said}
use Rattle.smv_proof_read.proofs.whole.length_in.Goals as goal

pub returns-in_err-word : goal.returns-in_err-word
returns-in_err-word c = c.from_residual.ensures ∙ sym (length_one c.args.line.now (sym c.in_err-word.ensures.cut))

pub returns-then-not-is_design : goal.returns-then-not-is_design
returns-then-not-is_design c = sym (length_other c.args.line.now c.in_ok-word.word.now c.in_ok-word.number.now (sym c.in_ok-word.ensures.cut) (sym c.is_design.ensures ∙ c.if-not-is_design.true))

pub returns : goal.returns
returns c = c.number_of.ensures ∙ sym (length_said c.args.line.now c.in_ok-word.word.now c.in_ok-word.number.now (sym c.in_ok-word.ensures.cut) (sym c.is_design.ensures ∙ c.if-not-is_design.false))
