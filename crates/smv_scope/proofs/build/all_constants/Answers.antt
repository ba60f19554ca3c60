use Rattle.smv_scope.proofs.TableLaws.{constants-step}
use Rattle.smv_scope.proofs.build.all_constants.Goals as goal

pub loop-number-preserved : goal.loop-number-preserved
loop-number-preserved c =
    constants-step c.args.lists.now c.loop-number.constants c.add_constants.new.constants c.loop-number.number c.index-lists-number.result c.loop-number-test.true c.index-lists-number.is c.in_ok-add_constants.ensures c.loop-number.invariant
