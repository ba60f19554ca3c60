use Rattle.bdd_tests.proofs.Currents.{all_on, true_of}
use Rattle.bdd_tests.proofs.cases.are_current.Goals as goal

pub loop-f-preserved : goal.loop-f-preserved
loop-f-preserved c = all_on c.args.store.now c.args.fs.now c.loop-f.f-index (record { place = 0 }) c.loop-f-test.true c.loop-f.invariant (c.in_ok-is_current.ensures (true_of c.in_ok-is_current.field-0 c.if-not-branch.false))
