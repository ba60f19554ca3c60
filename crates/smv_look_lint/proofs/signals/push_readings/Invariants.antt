use Rattle.std.proofs.Common.{◌≡◌, ◌++◌, drop, map}
use Rattle.std.specs.List.{flat_map}
use Rattle.law_designs.specs.Reading.{Reading}
use Rattle.smv_loops.specs.Held.{reading_of}
use Rattle.smv_look_lint.specs.Signals.{other_families}
use Rattle.smv_look_lint.proofs.signals.push_readings.Given as goal

abbrev pub invariant-loop-a : goal.invariant-loop-a
invariant-loop-a l = l.out.items ++ flat_map (λ (a : Reading). other_families l.own a.reads) (map reading_of (drop l.a-index l.held)) ≡ l.initial.out.items ++ flat_map (λ (a : Reading). other_families l.own a.reads) (map reading_of l.held)
