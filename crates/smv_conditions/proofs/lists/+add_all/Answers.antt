use Rattle.std.proofs.Common.{rules}
use Rattle.smv_conditions.proofs.AddLaws.{adds_none, adds_more, rest_kept}
use Rattle.smv_conditions.proofs.lists.+add_all.Goals as goal

pub returns-in_default-clause-adds : goal.returns-in_default-clause-adds
returns-in_default-clause-adds g t c n p a = adds_none n _ a p _ _ _ _ c.in_default.ensures.cases

pub returns-clause-adds : goal.returns-clause-adds
returns-clause-adds g t c n p a = let w = c.in-Some.ensures.cases in
    adds_more n _ _ _ a p _ _ _ _ _ _ _ _ _ _ w.0 c.in_ok-add_offer.ensures.keeps c.requires.when_made c.requires.offers_made (c.in_ok-add_offer.ensures.adds n p a) (c.in_ok-add_all.ensures.adds n p a)

pub add_all-requires : goal.add_all-requires
add_all-requires g t c =
    let w = c.in-Some.ensures.cases in
    let when_made = c.in_ok-add_offer.ensures.keeps.made c.args.when c.requires.when_made in
    let offers_made = rest_kept _ _ _ _ _ _ _ _ w.0 c.in_ok-add_offer.ensures.keeps c.requires.offers_made in
    search (rules, when_made, offers_made, c.in_ok-add_offer.ensures.made)
