use Rattle.smv_walk_parts.proofs.FirstLaws.{no_first, one_first}
use Rattle.smv_walk_parts.proofs.firsts.+first_of_all.Goals as goal

pub returns-in_default-clause-gist : goal.returns-in_default-clause-gist
returns-in_default-clause-gist g t c a = no_first _ a _ _ _ _ c.in_default.ensures.cases (c.nothing.ensures.gist a)

pub returns-clause-gist : goal.returns-clause-gist
returns-clause-gist g t c a = let w = c.in-Some.ensures.cases in one_first _ _ _ a _ _ _ _ _ _ _ _ w.0 c.in_ok-more.ensures.keeps c.requires.made (c.in_ok-more.ensures.gist a) (c.in_ok-g.ensures.gist a)
