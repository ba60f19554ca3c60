use Rattle.std.proofs.Common.{ℕ, ◌≤◌, take}
use Rattle.smv_search.specs.Keeping.{beads_of}
use Rattle.smv_search.proofs.OneByOne.{TookAt}
use Rattle.smv_search.proofs.counts.take_in.Given as goal

abbrev pub invariant-loop-i : goal.invariant-loop-i
invariant-loop-i l = record {
  took : (images : ℕ) → TookAt l.store l.all l.nodes images l.i;
  within : beads_of l.store (take l.i l.all) ≤ l.nodes;
}
