use Rattle.smv_kept_cases.proofs.OldLaws.{first_more}
use Rattle.smv_kept_cases.proofs.old_sets.first_of.Goals as goal

pub loop-set-preserved : goal.loop-set-preserved
loop-set-preserved c = first_more c.args.sets.now c.loop-set.set-index c.set-item.result c.loop-set.first c.note.new.first c.loop-set-test.true c.set-item.is c.loop-set.invariant c.in_ok-note.ensures
