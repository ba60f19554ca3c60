use Rattle.worked_texts.proofs.WorkedNames as names
use Rattle.worked_texts.proofs.Tomasulo as machine
use Rattle.worked_texts.proofs.names.worked_faults.Goals as goal

pub returns-clause-rows : goal.returns-clause-rows
returns-clause-rows c = names.rows

pub returns-clause-other_passes : goal.returns-clause-other_passes
returns-clause-other_passes c = names.other_passes

pub returns-clause-what_is_declared : goal.returns-clause-what_is_declared
returns-clause-what_is_declared c = names.what_is_declared

pub returns-clause-fields : goal.returns-clause-fields
returns-clause-fields c = names.fields

pub returns-clause-behind_undeclared : goal.returns-clause-behind_undeclared
returns-clause-behind_undeclared c = names.behind_undeclared

pub returns-clause-order_of_tops : goal.returns-clause-order_of_tops
returns-clause-order_of_tops c = names.order_of_tops

pub returns-clause-first_counts : goal.returns-clause-first_counts
returns-clause-first_counts c = names.first_counts

pub returns-clause-declared_twice : goal.returns-clause-declared_twice
returns-clause-declared_twice c = names.declared_twice

pub returns-clause-formals : goal.returns-clause-formals
returns-clause-formals c = names.formals

pub returns-clause-constants_of_lists : goal.returns-clause-constants_of_lists
returns-clause-constants_of_lists c = names.constants_of_lists

pub returns-clause-recursion : goal.returns-clause-recursion
returns-clause-recursion c = names.recursion

pub returns-clause-smallest_place : goal.returns-clause-smallest_place
returns-clause-smallest_place c = names.smallest_place

pub returns-clause-sizes : goal.returns-clause-sizes
returns-clause-sizes c = names.sizes

pub returns-clause-tomasulo : goal.returns-clause-tomasulo
returns-clause-tomasulo c = machine.rows
