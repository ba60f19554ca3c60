use Rattle.std.proofs.Common.{sym, ◌∙◌, true≢false}
use Rattle.smv_free_variables.proofs.AlikeLaws.{agree_by_last, last_of_both, some_agree}
use Rattle.smv_free_variables.proofs.alike.+agree.Goals as goal

pub returns-in_default-split_last : goal.returns-in_default-split_last
returns-in_default-split_last t c = (λ no. absurd (true≢false (sym no)), λ h. absurd (some_agree _ _ _ _ _ c.in-Some.ensures.cases.0 c.in_default-split_last.ensures.cases h))

pub returns-then-is_same : goal.returns-then-is_same
returns-then-is_same t c =
    let b = c.in-Some.ensures.cases.0 in
    let d = c.in-Some-split_last.ensures.cases.0 in (
      λ h. agree_by_last _ _ _ _ _ _ _ b d (c.agree.ensures.0 h) (c.is_same.ensures.0 c.if-is_same.true),
      λ h. c.agree.ensures.1 (last_of_both _ _ _ _ _ _ _ b d h).0,
    )

pub returns-else-is_same : goal.returns-else-is_same
returns-else-is_same t c =
    let b = c.in-Some.ensures.cases.0 in
    let d = c.in-Some-split_last.ensures.cases.0 in (
      λ yes. absurd (true≢false (sym yes ∙ c.if-is_same.false)),
      λ h. c.is_same.ensures.1 (last_of_both _ _ _ _ _ _ _ b d h).1,
    )
