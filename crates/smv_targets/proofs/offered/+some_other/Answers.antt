use Rattle.std.proofs.Common.{◌∙◌, sym}
use Rattle.law_obligations.proofs.MixLaws.{or_same}
use Rattle.smv_conditions.proofs.OfferLaws.{first_made}
use Rattle.smv_targets.proofs.OfferedLaws.{none_offered, one_offered, same_skipped, other_added}
use Rattle.smv_targets.proofs.offered.+some_other.Goals as goal

pub returns-in_default-clause-holds : goal.returns-in_default-clause-holds
returns-in_default-clause-holds g t c w world a = none_offered w.classes _ _ a _ _ _ c.in_default.ensures.cases (c.constant.ensures.holds a)

pub returns-then-is_same_outcome-clause-holds : goal.returns-then-is_same_outcome-clause-holds
returns-then-is_same_outcome-clause-holds g t c w world a =
    let first = c.in-Some.ensures.cases in
    one_offered w.classes _ _ a _ _ _ _ _ first.0 (c.in_ok-more.ensures.holds w world a ∙ same_skipped _ _ _ _ (sym (c.is_same_outcome.ensures w world) ∙ c.if-is_same_outcome.true))

pub returns-clause-holds : goal.returns-clause-holds
returns-clause-holds g t c w world a =
    let first = c.in-Some.ensures.cases in
    let k = c.in_ok-more.ensures.keeps in
    one_offered w.classes _ _ a _ _ _ _ _ first.0 (c.in_ok-r.ensures.holds a
    ∙ or_same (k.same _ (first_made _ _ _ _ first.0 c.requires.offers_made) a ∙ other_added _ _ _ (sym (c.is_same_outcome.ensures w world) ∙ c.if-is_same_outcome.false))
    (c.in_ok-more.ensures.holds w world a))
