use Rattle.std.proofs.Common.{◌≡◌, ℕ, ◌++◌, map, take}
use Rattle.bdd_store.specs.Diagram.{Diagram, table}
use Rattle.smv_rings.specs.Schedule.Act.{Join}
use Rattle.smv_rings.specs.Ops.{acts_of, refs_in_all}
use Rattle.smv_search.proofs.runs.push_ands.Given as goal

abbrev pub invariant-loop-f : goal.invariant-loop-f
invariant-loop-f l = record {
  acts : (d : Diagram) (k : ℕ) → acts_of d k l.ops.items ≡ acts_of d k l.initial.ops.items ++ map Join (map (table d) (take l.f-index l.fs));
  refs : refs_in_all l.ops.items ≡ refs_in_all l.initial.ops.items ++ take l.f-index l.fs;
}
