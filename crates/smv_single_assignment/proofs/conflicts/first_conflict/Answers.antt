use Rattle.std.proofs.Common.{ap, refl, ◌∙◌}
use Rattle.std.specs.List.{flat_map}
use Rattle.smv_mentions.specs.Scopes.{first_of_places}
use Rattle.smv_single_assignment.specs.Held.{assigned_of, conflicts_of}
use Rattle.smv_single_assignment.specs.Links.{held}
use Rattle.smv_single_assignment.proofs.LinkLaws.{stands-all}
use Rattle.smv_single_assignment.proofs.WalkLaws.{part-walked}
use Rattle.smv_single_assignment.proofs.conflicts.first_conflict.Goals as goal

pub loop-x-preserved : goal.loop-x-preserved
loop-x-preserved c =
    let all = held c.args.table.now in
    part-walked all conflicts_of assigned_of 0 c.args.items.now (stands-all all (flat_map assigned_of c.args.items.now) c.requires.items) c.loop-x.x-index c.x-item.result (record { found = c.loop-x.found; end = c.loop-x.end }) c.in_ok-walked.walked
    (record { found = c.first_of-found.result; end = c.in_ok-walked.walked.end }) c.first_meeting-met.result c.loop-x-test.true c.x-item.is c.loop-x.invariant c.in_ok-walked.ensures c.first_meeting-met.ensures
    (c.first_of-found.ensures ∙ ap (first_of_places c.loop-x.found) c.first_of.ensures) refl
