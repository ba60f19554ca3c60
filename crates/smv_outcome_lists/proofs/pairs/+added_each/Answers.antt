use Rattle.std.proofs.Common.{rules}
use Rattle.smv_conditions.proofs.AddLaws.{rest_kept}
use Rattle.std.proofs.Common.{ap}
use Rattle.smv_outcome_lists.proofs.PairLaws.{none_added_each, more_added_each}
use Rattle.smv_outcome_lists.proofs.pairs.+added_each.Goals as goal

pub returns-in_default-clause-adds : goal.returns-in_default-clause-adds
returns-in_default-clause-adds g t c n p a = none_added_each n g.S.Conditions.IsMade _ g.S.Conditions.room a _ p _ _ _ _ c.in_default.ensures.cases

pub returns-clause-adds : goal.returns-clause-adds
returns-clause-adds g t c n p a = let w = c.in-Some.ensures.cases in
    more_added_each n _ _ _ a _ _ _ p _ _ _ _ _ _ _ _ _ w.0 c.in_ok-add_offer.ensures.keeps c.requires.when_made c.requires.made (ap p (c.added-sum.ensures n)) (c.in_ok-add_offer.ensures.adds n p a) (c.in_ok-added_each.ensures.adds n p a)

pub added_each-requires : goal.added_each-requires
added_each-requires g t c =
    let w = c.in-Some.ensures.cases in
    let when_made = c.in_ok-add_offer.ensures.keeps.made c.args.when c.requires.when_made in
    let made = rest_kept _ _ _ _ _ _ _ _ w.0 c.in_ok-add_offer.ensures.keeps c.requires.made in
    search (rules, when_made, made, c.in_ok-add_offer.ensures.made)
