use Rattle.std.proofs.Common.{◌∙◌, sym, arith}
use Rattle.smv_check.proofs.cases.judge.Goals as goal

pub failed_by-requires-clause-below : goal.failed_by-requires-clause-below
failed_by-requires-clause-below c = λ case e well. sym (c.is_over.ensures case e well) ∙ c.if-not-is_over.false

pub returns-then-not-is_over : goal.returns-then-not-is_over
returns-then-not-is_over c = λ case e well. sym (c.is_over.ensures case e well) ∙ c.if-not-is_over.true

pub returns : goal.returns
returns c = λ case e well. (sym (c.is_over.ensures case e well) ∙ c.if-not-is_over.false, omega arith, c.in_ok-failed.ensures case e well)
