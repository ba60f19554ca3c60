use Rattle.std.proofs.Common.{rules}
use Rattle.smv_conditions.proofs.AddLaws.{rest_kept}
use Rattle.std.proofs.Common.{◌&&◌, ◌∙◌, ap, refl}
use Rattle.smv_spots.specs.Spots.{outcome_in}
use Rattle.smv_outcome_lists.proofs.PairLaws.{none_added_all, more_added_all}
use Rattle.smv_outcome_lists.proofs.pairs.+remainders.Goals as goal

pub returns-in_default-clause-adds : goal.returns-in_default-clause-adds
returns-in_default-clause-adds g t c n p a = none_added_all n g.S.Conditions.IsMade _ g.S.Conditions.room a _ p _ _ _ c.in_default.ensures.cases

pub returns-clause-adds : goal.returns-clause-adds
returns-clause-adds g t c n p a = let w = c.in-Some.ensures.cases in
    more_added_all n _ _ _ a _ _ _ p _ _ _ _ _ _ _ _ _ w.0 c.in_ok-add_offer.ensures.keeps c.requires.us_made (c.in_ok-add_offer.ensures.adds n p a) (ap (λ b. b && p (outcome_in n c.remainder-rest.result)) (c.constant-always.ensures.holds a) ∙ ap p (c.remainder-rest.ensures n)) (λ o. refl) (c.in_ok-remainders.ensures.adds n p a)

pub remainders-requires : goal.remainders-requires
remainders-requires g t c =
    let w = c.in-Some.ensures.cases in
    let us_made = rest_kept _ _ _ _ _ _ _ _ w.0 c.in_ok-add_offer.ensures.keeps c.requires.us_made in
    search (rules, us_made, c.in_ok-add_offer.ensures.made)
