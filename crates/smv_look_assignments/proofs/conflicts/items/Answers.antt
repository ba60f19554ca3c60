use Rattle.std.proofs.Common.{◌∙◌, [], map, ap}
use Rattle.smv_first_fault.specs.Firsts.{least}
use Rattle.smv_single_assignment.specs.Held.{assigned_of, standing_of}
use Rattle.smv_look_assignments.specs.Assignments.{item_met}
use Rattle.smv_look_assignments.proofs.MetLaws.{along-end, along-step, by-items}
use Rattle.smv_look_assignments.proofs.conflicts.items.Goals as goal

pub loop-x-preserved : goal.loop-x-preserved
loop-x-preserved c =
    along-step (item_met c.args.at) assigned_of c.args.items.now c.loop-x.x-index c.x-item.result
    (map standing_of c.as_slice.result.now) (map standing_of c.loop-x.before.items) (map standing_of c.push_item.new.out.items) c.loop-x.found c.in_ok-met.met c.first_of-found.result _
    c.loop-x-test.true c.x-item.is (ap (map standing_of) c.as_slice.ensures.value) c.in_ok-met.ensures c.first_of-found.ensures c.in_ok-push_item.ensures c.loop-x.invariant

pub returns : goal.returns
returns c =
    along-end (item_met c.args.at) assigned_of c.args.items.now c.loop-x.x-index (map standing_of c.loop-x.before.items) c.loop-x.found _ c.loop-x-test.false c.loop-x.invariant ∙ ap least (by-items c.args.at [] c.args.items.now)
