use Rattle.smv_outcome_lists.proofs.ListLaws.{none_within, more_within, lists_kept}
use Rattle.smv_outcome_lists.proofs.members.+within_of.Goals as goal

pub returns-in_default-clause-mix : goal.returns-in_default-clause-mix
returns-in_default-clause-mix g t c w h a = none_within w.classes _ a _ _ _ _ _ c.in_default.ensures.cases (c.none.ensures.mix a)

pub returns-clause-mix : goal.returns-clause-mix
returns-clause-mix g t c w h a = let k = c.in-Some.ensures.cases in
    more_within w.classes _ _ _ a _ _ _ _ _ _ _ _ _ _ _ k.0 c.in_ok-x.ensures.keeps c.in_ok-y.ensures.keeps c.requires.us_made c.requires.vss_made c.in_ok-x.ensures.made (c.in_ok-x.ensures.mix w h a) (c.in_ok-y.ensures.mix w h a) (c.in_ok-z.ensures.mix a)

pub member_of-requires : goal.member_of-requires
member_of-requires g t c = record { made = lists_kept _ _ _ _ _ _ c.in_ok-x.ensures.keeps c.requires.vss_made }
