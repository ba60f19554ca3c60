use Rattle.std.proofs.Common.{◌≡◌, ◌++◌, take, drop, length}
use Rattle.law_designs.specs.Flattening.{with_places}
use Rattle.smv_flatten.proofs.places.placed.Given as goal

abbrev pub invariant-loop-i : goal.invariant-loop-i
invariant-loop-i l = record {
  placed : take l.i l.all.items ++ with_places l.place (drop l.i l.all.items) ≡ with_places 0 l.initial.all.items;
  same_length : length l.all.items ≡ length l.initial.all.items;
}
