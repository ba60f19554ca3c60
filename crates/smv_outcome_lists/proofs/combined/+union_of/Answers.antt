use Rattle.smv_outcome_lists.proofs.CombinedLaws.{no_union, one_union}
use Rattle.smv_outcome_lists.proofs.combined.+union_of.Goals as goal

pub returns-in_default-clause-mix : goal.returns-in_default-clause-mix
returns-in_default-clause-mix g t c a = no_union _ a _ _ _ _ c.in_default.ensures.cases (c.none.ensures.mix a)

pub returns-clause-mix : goal.returns-clause-mix
returns-clause-mix g t c a = let w = c.in-Some.ensures.cases in one_union _ _ _ a _ _ _ _ _ _ _ _ w.0 c.in_ok-y.ensures.keeps c.requires.made (c.in_ok-y.ensures.mix a) (c.in_ok-z.ensures.mix a)
