use Rattle.std.proofs.Common.{◌≡◌, ◌≤◌, List, [], length, Some}
use Rattle.smv_proof.specs.declared.proof.KeptSet.{KeptSet}
use Rattle.smv_proof.specs.Readings.{settled}
use Rattle.smv_proof_read.specs.Onward.{begun_at, onward}
use Rattle.smv_proof_read.specs.Standing.{HasLines}
use Rattle.smv_proof_read.proofs.nodes.read_nodes.Given as goal

abbrev pub invariant-loop-due : goal.invariant-loop-due
invariant-loop-due l = record {
  seen : HasLines l.seen l.nodes.items;
  read : (sets : List KeptSet) (set : KeptSet) → onward (settled sets (Some (begun_at set [] l.fn.count))) l.fn.bytes ≡ onward (settled sets (Some (begun_at set l.nodes.items l.due))) l.rest;
  rest : length l.rest ≤ length l.fn.bytes;
}

abbrev pub decreases-loop-due : goal.decreases-loop-due
decreases-loop-due l = l.due
