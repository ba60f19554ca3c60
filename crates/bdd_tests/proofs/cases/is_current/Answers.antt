use Rattle.std.proofs.Common.{arith}
use Rattle.bdd_tests.proofs.Currents.{current_if}
use Rattle.bdd_tests.proofs.cases.is_current.Goals as goal

pub returns : goal.returns
returns c is = current_if c.args.store.now c.args.f c.args.bits c.in_ok-reads.reads.items c.requires.vars c.in_ok-reads.ensures.depends (λ j lt. c.loop-b.invariant j (omega arith))
