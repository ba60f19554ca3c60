use Rattle.smv_first_fault.proofs.LeastLaws.{least-step}
use Rattle.law_lists.proofs.Places.{get_or-own}
use Rattle.smv_split_faults.specs.Waiting.{shown_of_unit}
use Rattle.smv_split_faults.proofs.mismatches.first_mismatch.Goals as goal

pub loop-unit-preserved : goal.loop-unit-preserved
loop-unit-preserved c =
    least-step (shown_of_unit c.args.tables.now.design.now) c.args.units.now c.loop-unit.unit-index _ c.loop-unit.found c.in_ok-place.place c.first_of-found.result _
    c.loop-unit-test.true (get_or-own c.args.units.now c.loop-unit.unit-index _ c.loop-unit-test.true) c.in_ok-place.ensures c.first_of-found.ensures c.loop-unit.invariant
