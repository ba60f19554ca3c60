use Rattle.std.proofs.Common.{sym, ◌∙◌, true≢false}
use Rattle.smv_free_variables.proofs.AlikeLaws.{all_more, more_all}
use Rattle.smv_free_variables.proofs.alike.+all_agree.Goals as goal

pub returns-then-agree : goal.returns-then-agree
returns-then-agree t c =
    let k = c.in-Some.ensures.cases in (
      λ h. all_more _ _ _ _ _ _ k.0 c.as_slice.ensures (c.agree.ensures.0 c.if-agree.true) (c.all_agree.ensures.0 h),
      λ h. c.all_agree.ensures.1 (more_all _ _ _ _ _ _ k.0 c.as_slice.ensures h).1,
    )

pub returns-else-agree : goal.returns-else-agree
returns-else-agree t c =
    let k = c.in-Some.ensures.cases in (
      λ yes. absurd (true≢false (sym yes ∙ c.if-agree.false)),
      λ h. c.agree.ensures.1 (more_all _ _ _ _ _ _ k.0 c.as_slice.ensures h).0,
    )
