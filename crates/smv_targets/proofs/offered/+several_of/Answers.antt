use Rattle.std.proofs.Common.{◌∙◌, sym}
use Rattle.law_obligations.proofs.MixLaws.{or_same}
use Rattle.smv_conditions.proofs.OfferLaws.{first_made}
use Rattle.smv_conditions.proofs.AddLaws.{rest_kept, offers_same}
use Rattle.smv_cells.proofs.SeenLaws.{keeps_trans, keeps_same}
use Rattle.smv_targets.proofs.OfferedLaws.{and_same, none_offered, also_offered, none_differ, two_more}
use Rattle.smv_targets.proofs.offered.+several_of.Goals as goal

pub returns-in_default-clause-some : goal.returns-in_default-clause-some
returns-in_default-clause-some g t c n a = none_offered n _ _ a _ _ _ c.in_default.ensures.cases (c.constant-never.ensures.holds a)

pub returns-in_default-clause-two : goal.returns-in_default-clause-two
returns-in_default-clause-two g t c w world a = none_differ w.classes _ _ a _ _ c.in_default.ensures.cases (c.constant-never.ensures.holds a)

pub other_of-requires-clause-offers_made : goal.other_of-requires-clause-offers_made
other_of-requires-clause-offers_made g t c = rest_kept _ _ _ _ _ _ _ _ c.in-Some.ensures.cases.0 c.in_ok-rest.ensures.keeps c.requires.offers_made

pub other_of-requires-clause-some_is : goal.other_of-requires-clause-some_is
other_of-requires-clause-some_is g t c n a = c.in_ok-rest.ensures.some n a ∙ sym (offers_same n _ _ _ a _ _ _ _ c.in_ok-rest.ensures.keeps (rest_kept g.S.Conditions.IsMade g.S.Conditions.holds g.S.Conditions.room _ _ _ _ _ c.in-Some.ensures.cases.0 (keeps_same _ _ _ _) c.requires.offers_made))

pub returns-clause-some : goal.returns-clause-some
returns-clause-some g t c n a =
    let first = c.in-Some.ensures.cases in
    let k = keeps_trans _ _ _ _ _ _ (keeps_trans _ _ _ _ _ _ c.in_ok-other.ensures.keeps c.in_ok-here.ensures.keeps) c.in_ok-two.ensures.keeps in
    let m = first_made _ _ _ _ first.0 c.requires.offers_made in
    also_offered n _ _ a _ _ _ _ first.0 (c.in_ok-some.ensures.holds a
    ∙ or_same (k.same _ (c.in_ok-rest.ensures.keeps.made _ m) a ∙ c.in_ok-rest.ensures.keeps.same _ m a)
    (k.same _ c.in_ok-rest.ensures.some_made a ∙ c.in_ok-rest.ensures.some n a))

pub returns-clause-two : goal.returns-clause-two
returns-clause-two g t c w world a =
    let first = c.in-Some.ensures.cases in
    let m = first_made _ _ _ _ first.0 c.requires.offers_made in
    let k = c.in_ok-rest.ensures.keeps in
    let l = c.in_ok-other.ensures.keeps in
    two_more w.classes _ _ a _ _ _ _ first.0 (c.in_ok-some.ensures.keeps.same _ c.in_ok-two.ensures.made a
    ∙ (c.in_ok-two.ensures.holds a
    ∙ or_same (c.in_ok-here.ensures.holds a
    ∙ and_same (l.same _ (k.made _ m) a ∙ k.same _ m a) (c.in_ok-other.ensures.holds w world a ∙ offers_same w.classes _ _ _ a _ _ _ _ k (rest_kept g.S.Conditions.IsMade g.S.Conditions.holds g.S.Conditions.room _ _ _ _ _ first.0 (keeps_same _ _ _ _) c.requires.offers_made)))
    (c.in_ok-here.ensures.keeps.same _ (l.made _ c.in_ok-rest.ensures.two_made) a ∙ (l.same _ c.in_ok-rest.ensures.two_made a ∙ c.in_ok-rest.ensures.two w world a))))
