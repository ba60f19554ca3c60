use Rattle.std.proofs.Common.{map, get_or}
use Rattle.law_lists.proofs.Places.{get_or-own}
use Rattle.smv_split_faults.specs.Waiting.{held}
use Rattle.smv_split_faults.proofs.WaitingLaws.{waits-step}
use Rattle.smv_split_faults.proofs.mismatches.add_all.Goals as goal

pub loop-number-preserved : goal.loop-number-preserved
loop-number-preserved c =
    waits-step c.args.splits.now c.args.numbers.now c.loop-number.number-index (get_or c.args.numbers.now c.loop-number.number-index 0) c.args.known c.args.left _ (map held c.loop-number.out.items) (map held c.add.new.out.items) _
    c.loop-number-test.true (get_or-own c.args.numbers.now c.loop-number.number-index 0 c.loop-number-test.true) c.split_at-split.ensures c.in_ok-add.ensures c.loop-number.invariant
