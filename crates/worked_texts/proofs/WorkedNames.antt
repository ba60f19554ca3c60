-- By computing what is found in each text.
use Rattle.std.proofs.Common.{refl}
use Rattle.worked_texts.specs.Worked.{AreFound}
use Rattle.worked_texts.specs.WorkedNames as w
use Rattle.worked_texts.proofs.Computing.{computing}

pub rows : AreFound w.rows
unfolding computing
rows = refl

pub other_passes : AreFound w.other_passes
unfolding computing
other_passes = refl

pub what_is_declared : AreFound w.what_is_declared
unfolding computing
what_is_declared = refl

pub fields : AreFound w.fields
unfolding computing
fields = refl

pub behind_undeclared : AreFound w.behind_undeclared
unfolding computing
behind_undeclared = refl

pub order_of_tops : AreFound w.order_of_tops
unfolding computing
order_of_tops = refl

pub first_counts : AreFound w.first_counts
unfolding computing
first_counts = refl

pub declared_twice : AreFound w.declared_twice
unfolding computing
declared_twice = refl

pub formals : AreFound w.formals
unfolding computing
formals = refl

pub constants_of_lists : AreFound w.constants_of_lists
unfolding computing
constants_of_lists = refl

pub recursion : AreFound w.recursion
unfolding computing
recursion = refl

pub smallest_place : AreFound w.smallest_place
unfolding computing
smallest_place = refl

pub sizes : AreFound w.sizes
unfolding computing
sizes = refl
