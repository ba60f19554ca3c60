use Rattle.std.proofs.Common.{◌∙◌, sym}
use Rattle.smv_check.proofs.Judged.{follows_old, follows_met, follows_failed}
use Rattle.smv_check.proofs.cases.failed_by.Goals as goal

pub returns-then-is_some : goal.returns-then-is_some
returns-then-is_some c = λ case e well. follows_old _ c.args.progress.looked c.args.progress.failed (sym c.is_some.ensures ∙ c.if-is_some.true)

pub returns-then-holds : goal.returns-then-holds
returns-then-holds c = λ case e well.
    follows_met _ c.args.progress.looked c.args.progress.failed (sym c.is_some.ensures ∙ c.if-is_some.false) c.in_ok-holds.holds (c.in_ok-holds.ensures case e well) c.if-holds.true

pub returns : goal.returns
returns c = λ case e well.
    follows_failed _ c.args.progress.looked c.args.progress.failed (sym c.is_some.ensures ∙ c.if-is_some.false) c.in_ok-holds.holds (c.in_ok-holds.ensures case e well) c.if-holds.false
