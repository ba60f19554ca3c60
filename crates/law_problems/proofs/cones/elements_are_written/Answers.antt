use Rattle.law_problems.proofs.Writing.{named_written, choices_written, elements_written}
use Rattle.law_problems.proofs.cones.elements_are_written.Goals as goal

pub returns-clause-named : goal.returns-clause-named
returns-clause-named c w t i = named_written w t i

pub returns-clause-choices : goal.returns-clause-choices
returns-clause-choices c pss = choices_written pss

pub returns-clause-elements : goal.returns-clause-elements
returns-clause-elements c w indexed x y h k e = elements_written w indexed x y h k e
