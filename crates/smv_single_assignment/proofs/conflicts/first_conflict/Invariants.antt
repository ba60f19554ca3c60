use Rattle.std.proofs.Common.{take}
use Rattle.std.specs.List.{flat_map}
use Rattle.law_designs.specs.SingleFaults as spec
use Rattle.smv_single_assignment.specs.Held.{among, assigned_of, conflicts_of}
use Rattle.smv_single_assignment.specs.Walks.{IsWalked}
use Rattle.smv_single_assignment.proofs.conflicts.first_conflict.Given as goal

abbrev pub invariant-loop-x : goal.invariant-loop-x
invariant-loop-x l = IsWalked 0 (among spec.meet conflicts_of assigned_of (take l.x-index l.items)) (flat_map assigned_of (take l.x-index l.items)) (record { found = l.found; end = l.end })
