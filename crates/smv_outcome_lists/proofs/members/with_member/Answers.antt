use Rattle.smv_outcome_lists.proofs.ListLaws.{member_more}
use Rattle.smv_outcome_lists.proofs.members.with_member.Goals as goal

pub returns-clause-mix : goal.returns-clause-mix
returns-clause-mix g c w h a = member_more _ _ _ w.classes a _ _ _ _ _ _ _ _ c.in_ok-y.ensures.keeps c.requires.found_made (c.in_ok-y.ensures.mix w h a) (c.in_ok-z.ensures.mix a)
