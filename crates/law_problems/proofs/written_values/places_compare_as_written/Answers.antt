use Rattle.law_problems.proofs.Alike.{have_kinds, alike, equal_as_written, below_as_written}
use Rattle.law_problems.proofs.written_values.places_compare_as_written.Goals as goal

pub returns-clause-kinds : goal.returns-clause-kinds
returns-clause-kinds c w t p h = have_kinds w t p h

pub returns-clause-alike : goal.returns-clause-alike
returns-clause-alike c n distinct j k joined p q a b = alike n distinct j k joined p q a b

pub returns-clause-equal : goal.returns-clause-equal
returns-clause-equal c n distinct j k joined p q a b = equal_as_written n distinct j k joined p q a b

pub returns-clause-below : goal.returns-clause-below
returns-clause-below c n j k joined oj ok p q a b = below_as_written n j k joined oj ok p q a b
