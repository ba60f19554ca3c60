use Rattle.std.proofs.Common.{◌∙◌, ap}
use Rattle.law_obligations.proofs.MixLaws.{or_same}
use Rattle.smv_conditions.proofs.OfferLaws.{first_made}
use Rattle.smv_targets.specs.Offered.{given_test}
use Rattle.smv_targets.proofs.GivenLaws.{condition_made, target_kept}
use Rattle.smv_targets.proofs.OfferedLaws.{and_same, none_offered, one_offered}
use Rattle.smv_targets.proofs.offered.+some_given.Goals as goal

pub both-requires-clause-d_made : goal.both-requires-clause-d_made
both-requires-clause-d_made g t c = c.in_ok-more.ensures.keeps.made _ (condition_made _ _ _ c.given-gives.ensures.among c.requires.target_made)

pub returns-in_default-clause-holds : goal.returns-in_default-clause-holds
returns-in_default-clause-holds g t c w world a = none_offered w.classes _ _ a _ _ _ c.in_default.ensures.cases (c.constant.ensures.holds a)

pub returns-clause-holds : goal.returns-clause-holds
unfolding given_test
returns-clause-holds g t c w world a =
    let first = c.in-Some.ensures.cases in
    let k = c.in_ok-more.ensures.keeps in
    one_offered w.classes _ _ a _ _ _ _ _ first.0 (c.in_ok-r.ensures.holds a
    ∙ or_same (c.in_ok-here.ensures.holds a
    ∙ and_same (k.same _ (first_made _ _ _ _ first.0 c.requires.offers_made) a)
    (k.same _ (condition_made _ _ _ c.given-gives.ensures.among c.requires.target_made) a ∙ ap (λ d. g.S.Conditions.holds c.args.s.now d a) (c.given-gives.ensures.is w world)))
    (c.in_ok-here.ensures.keeps.same _ c.in_ok-more.ensures.made a ∙ c.in_ok-more.ensures.holds w world a))

pub returns-clause-target : goal.returns-clause-target
returns-clause-target g t c = target_kept _ _ _ _ _ _ c.in_ok-r.ensures.keeps (target_kept _ _ _ _ _ _ c.in_ok-here.ensures.keeps c.in_ok-more.ensures.target)
