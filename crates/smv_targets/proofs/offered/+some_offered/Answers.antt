use Rattle.std.proofs.Common.{◌∙◌}
use Rattle.law_obligations.proofs.MixLaws.{or_same}
use Rattle.smv_conditions.proofs.OfferLaws.{first_made}
use Rattle.smv_targets.proofs.OfferedLaws.{none_offered, also_offered}
use Rattle.smv_targets.proofs.offered.+some_offered.Goals as goal

pub returns-in_default-clause-holds : goal.returns-in_default-clause-holds
returns-in_default-clause-holds g t c n a = none_offered n _ _ a _ _ _ c.in_default.ensures.cases (c.constant.ensures.holds a)

pub returns-clause-holds : goal.returns-clause-holds
returns-clause-holds g t c n a =
    let first = c.in-Some.ensures.cases in
    also_offered n _ _ a _ _ _ _ first.0 (c.in_ok-r.ensures.holds a ∙ or_same (c.in_ok-more.ensures.keeps.same _ (first_made _ _ _ _ first.0 c.requires.offers_made) a) (c.in_ok-more.ensures.holds n a))
