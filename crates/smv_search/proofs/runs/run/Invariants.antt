use Rattle.std.proofs.Common.{◌≡◌, ℕ, drop, map}
use Rattle.bdd_store.specs.Diagram.{IsLive, table}
use Rattle.smv_search.specs.Keeping.{KeepsRefs}
use Rattle.smv_rings.specs.Ops.{acts_of, FitsActs}
use Rattle.smv_search.specs.Runs.{Ran}
use Rattle.smv_search.proofs.runs.run.Given as goal

abbrev pub invariant-loop-op : goal.invariant-loop-op
invariant-loop-op l = record {
  same : l.live.items ≡ l.initial.live.items;
  keeps : KeepsRefs l.initial.store l.store l.initial.live.items;
  live : IsLive l.store l.p;
  fits : FitsActs l.initial.store.vars (table l.store l.p) (acts_of l.initial.store 0 (drop l.op-index l.ops));
  ran : (k images : ℕ) → Ran (record { vars = l.initial.store.vars; nodes = l.nodes; images = images }) (map (table l.initial.store) l.initial.live.items) (table l.initial.store l.initial.p) (acts_of l.initial.store k l.ops) (table l.store l.p) (acts_of l.initial.store k (drop l.op-index l.ops));
}
