use Rattle.law_reports.specs.CaseLists.{those_of}
use Rattle.law_arrangements.specs.ArrangedLists.{met_step}
use Rattle.smv_encode.proofs.Adds.{before_taken, before_skipped, demands_shown}
use Rattle.smv_encode.proofs.Whole.{before_are}
use Rattle.smv_encode.proofs.elements.add_own_if.Goals as goal

pub returns-then-taken-clause-adds : goal.returns-then-taken-clause-adds
returns-then-taken-clause-adds c = λ d is well o are x hx.
    before_taken c.args.store.now c.add_own.new.store c.args.out.now.items c.add_own.new.out.items (met_step d o) (those_of d.problem.before x) c.args.taken c.if-taken.true
    (c.in_ok-add_own.ensures.adds d is well o are x hx d.problem.before (demands_shown d d.problem.before c.args.problem.now.before c.as_slice-demands.result.now c.as_slice-demands.ensures (before_are c.args.problem.now d is well)))

pub returns-clause-adds : goal.returns-clause-adds
returns-clause-adds c = λ d is well o are x hx. before_skipped c.args.store.now c.args.out.now.items (met_step d o) (those_of d.problem.before x) c.args.taken c.if-taken.false
