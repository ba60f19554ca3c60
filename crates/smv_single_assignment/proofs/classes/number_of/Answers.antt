use Rattle.std.proofs.Common.{sym}
use Rattle.smv_single_assignment.proofs.ClassLaws.{number-kept, number-from}
use Rattle.smv_single_assignment.proofs.classes.number_of.Goals as goal

pub returns-in_ok-insert-in-None-clause-kept : goal.returns-in_ok-insert-in-None-clause-kept
returns-in_ok-insert-in-None-clause-kept c = number-kept c.args.numbers.now c.insert.new.self c.args.key c.args.place c.in_ok-insert-in-None.ensures.updates (sym c.in-None.ensures.value)

pub returns-in_ok-insert-in-None-clause-from : goal.returns-in_ok-insert-in-None-clause-from
returns-in_ok-insert-in-None-clause-from c = number-from c.args.numbers.now c.insert.new.self c.args.key c.args.place c.in_ok-insert-in-None.ensures.updates
