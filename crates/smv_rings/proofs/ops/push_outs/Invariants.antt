use Rattle.std.proofs.Common.{◌≡◌, ℕ, ◌≤◌, ◌&&◌, not, ◌++◌, map}
use Rattle.std.specs.List.{filter}
use Rattle.bdd_store.specs.Diagram.{Diagram}
use Rattle.bdd_ops.specs.Functions.{bit_at}
use Rattle.smv_rings.specs.Schedule.{evens}
use Rattle.smv_rings.specs.Schedule.Act.{Out}
use Rattle.smv_rings.specs.Ops.{back_acts, AddsNone}
use Rattle.smv_rings.proofs.ops.push_outs.Given as goal

abbrev pub invariant-loop-left : goal.invariant-loop-left
invariant-loop-left l = record {
  within : l.left ≤ l.bits;
  acts : (d : Diagram) (k : ℕ) → map Out (filter (λ v. bit_at l.wanted v && not (bit_at l.read v)) (evens l.left)) ++ back_acts d k l.ops.items ≡ map Out (filter (λ v. bit_at l.wanted v && not (bit_at l.read v)) (evens l.bits)) ++ back_acts d k l.initial.ops.items;
  refs : AddsNone l.initial.ops.items l.ops.items;
}

abbrev pub decreases-loop-left : goal.decreases-loop-left
decreases-loop-left l = l.left
