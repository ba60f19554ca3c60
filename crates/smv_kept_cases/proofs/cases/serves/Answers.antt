use Rattle.std.proofs.Common.{◌∙◌, sym}
use Rattle.smv_kept_cases.proofs.CaseLaws.{serves_where, serves_not}
use Rattle.smv_kept_cases.proofs.cases.serves.Goals as goal

pub meets-requires-clause-below : goal.meets-requires-clause-below
meets-requires-clause-below c = λ case e well. sym (c.is_over.ensures case e well) ∙ c.if-not-is_over.false

pub returns-then-not-is_over : goal.returns-then-not-is_over
returns-then-not-is_over c = λ case e well. serves_not case c.args.set.now (sym (c.is_over.ensures case e well) ∙ c.if-not-is_over.true)

pub returns : goal.returns
returns c = λ case e well. serves_where case c.args.set.now (sym (c.is_over.ensures case e well) ∙ c.if-not-is_over.false) c.in_ok-holds.holds (c.in_ok-holds.ensures case e well)
