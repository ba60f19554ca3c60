use Rattle.std.proofs.Common.{take}
use Rattle.std.specs.List.{flat_map}
use Rattle.law_designs.specs.Standing.{standing}
use Rattle.law_designs.specs.SingleFaults as spec
use Rattle.smv_single_assignment.specs.Held.{among}
use Rattle.smv_single_assignment.specs.Links.{StandsAt, held}
use Rattle.smv_single_assignment.specs.Walks.{IsWalked}
use Rattle.smv_single_assignment.proofs.conflicts.+conflicts.Given as goal

abbrev pub invariant-block-loop-part : goal.invariant-block-loop-part
invariant-block-loop-part l =
    StandsAt (held l.table) l.start (flat_map (standing l.layer l.around) l.parts)
    → IsWalked l.start (among spec.meet (spec.conflicts l.layer l.around) (standing l.layer l.around) (take l.part-index l.parts)) (flat_map (standing l.layer l.around) (take l.part-index l.parts)) (record { found = l.found; end = l.end })
