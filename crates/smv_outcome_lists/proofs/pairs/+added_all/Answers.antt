use Rattle.std.proofs.Common.{rules}
use Rattle.smv_conditions.proofs.AddLaws.{rest_kept, offers_kept}
use Rattle.std.proofs.Common.{refl}
use Rattle.smv_conditions.proofs.AddLaws.{offers_same}
use Rattle.smv_outcome_lists.proofs.PairLaws.{none_added_all, more_added_all}
use Rattle.smv_outcome_lists.proofs.pairs.+added_all.Goals as goal

pub returns-in_default-clause-adds : goal.returns-in_default-clause-adds
returns-in_default-clause-adds g t c n p a = none_added_all n g.S.Conditions.IsMade _ g.S.Conditions.room a _ p _ _ _ c.in_default.ensures.cases

pub returns-clause-adds : goal.returns-clause-adds
returns-clause-adds g t c n p a = let w = c.in-Some.ensures.cases in
    more_added_all n _ _ _ a _ _ _ p _ _ _ _ _ _ _ _ _ w.0 c.in_ok-added_each.ensures.keeps c.requires.us_made (c.in_ok-added_each.ensures.adds n p a) refl (λ o. offers_same n _ _ _ a _ _ _ _ c.in_ok-added_each.ensures.keeps c.requires.vs_made) (c.in_ok-added_all.ensures.adds n p a)

pub added_all-requires : goal.added_all-requires
added_all-requires g t c =
    let w = c.in-Some.ensures.cases in
    let us_made = rest_kept _ _ _ _ _ _ _ _ w.0 c.in_ok-added_each.ensures.keeps c.requires.us_made in
    let vs_made = offers_kept _ _ _ _ _ _ c.in_ok-added_each.ensures.keeps c.requires.vs_made in
    search (rules, us_made, vs_made, c.in_ok-added_each.ensures.made)
