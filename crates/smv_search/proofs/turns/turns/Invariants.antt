use Rattle.std.proofs.Common.{◌≡◌, ◌<◌, ◌++◌, List, map}
use Rattle.bdd_store.specs.declared.Ref.{Ref}
use Rattle.bdd_store.specs.Diagram.{table}
use Rattle.smv_rings.specs.Lists.{lists_of}
use Rattle.smv_rings.specs.Schedule.{kept_at, ring, schedule}
use Rattle.smv_search.specs.Keeping.{KeepsRefs, AllHeld}
use Rattle.smv_rings.specs.Ops.{IsOneOf}
use Rattle.law_events.specs.Events.{AllUneventful, First}
use Rattle.law_events.specs.Events.Event.{Images}
use Rattle.smv_search.proofs.turns.turns.Given as goal

abbrev pub invariant-loop-k : goal.invariant-loop-k
invariant-loop-k l = record {
  keeps : KeepsRefs l.initial.store l.store l.initial.live.items;
  more : (r : Ref) → IsOneOf r l.initial.live.items → IsOneOf r l.live.items;
  front : (rest : List Ref) × (l.live.items ≡ l.initial.live.items ++ rest);
  held : AllHeld l.store l.live.items;
  last : IsOneOf l.last l.live.items;
  kept : map (table l.store) l.live.items ≡ kept_at (lists_of l.initial.store l.rel) l.k;
  ring : table l.store l.last ≡ ring (lists_of l.initial.store l.rel) l.k;
  passed : l.k < l.steps → AllUneventful (record { vars = l.initial.store.vars; nodes = l.nodes; images = l.steps }) (schedule (lists_of l.initial.store l.rel) l.k);
  ended : l.k ≡ l.steps → First (record { vars = l.initial.store.vars; nodes = l.nodes; images = l.steps }) (schedule (lists_of l.initial.store l.rel) l.steps) Images;
}
