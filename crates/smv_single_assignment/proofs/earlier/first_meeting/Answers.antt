use Rattle.std.proofs.Common.{ap, sym}
use Rattle.smv_first_fault.specs.Firsts.{least}
use Rattle.smv_single_assignment.specs.Links.{held}
use Rattle.smv_single_assignment.proofs.SharedLaws.{apart-none}
use Rattle.smv_single_assignment.proofs.earlier.first_meeting.Goals as goal

pub returns-then-not-do_touch : goal.returns-then-not-do_touch
returns-then-not-do_touch c = λ order within. sym (ap least (apart-none (held c.args.table.now) c.args.start c.args.middle c.args.end (c.do_touch.ensures c.if-not-do_touch.true)))
