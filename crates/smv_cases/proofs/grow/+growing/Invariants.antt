use Rattle.std.proofs.Common.{◌≡◌, ◌≤◌, ◌+◌, ◌-◌, ◌*◌, ◌++◌, map, length, max}
use Rattle.std.specs.List.{flat_map}
use Rattle.smv_core.specs.Values.{numbers_from}
use Rattle.smv_core.specs.declared.flat.Class.TheVariants as class
use Rattle.smv_cases.specs.Slots.{grown_behind, classes_of}
use Rattle.smv_cases.proofs.grow.+growing.Given as goal

abbrev pub decreases-grow : goal.decreases-grow
decreases-grow l = 4 * length l.more.now + 1

abbrev pub decreases-grow_behind : goal.decreases-grow_behind
decreases-grow_behind l = 4 * length l.more.now + 2

abbrev pub decreases-numbers : goal.decreases-numbers
decreases-numbers l = 4 * length l.more.now + 3

abbrev pub invariant-numbers-loop-value : goal.invariant-numbers-loop-value
invariant-numbers-loop-value l = record {
  found : classes_of l.found.items ≡ classes_of l.initial.found.items ++ flat_map (grown_behind l.slots l.before l.more) (map class.Number (numbers_from l.low (l.value - l.low)));
  within : l.value ≤ max l.low (l.high + 1);
  few : length (classes_of l.found.items) ≤ 4096;
}

abbrev pub decreases-classes : goal.decreases-classes
decreases-classes l = 4 * length l.more.now + 4

abbrev pub decreases-named : goal.decreases-named
decreases-named l = 4 * length l.more.now + 3

abbrev pub invariant-named-loop-place : goal.invariant-named-loop-place
invariant-named-loop-place l = record {
  found : classes_of l.found.items ≡ classes_of l.initial.found.items ++ flat_map (grown_behind l.slots l.before l.more) (map class.Named (numbers_from 0 (l.place - 0)));
  few : length (classes_of l.found.items) ≤ 4096;
}

abbrev pub decreases-rests : goal.decreases-rests
decreases-rests l = 4 * length l.more.now + 3

abbrev pub invariant-rests-loop-place : goal.invariant-rests-loop-place
invariant-rests-loop-place l = record {
  found : classes_of l.found.items ≡ classes_of l.initial.found.items ++ flat_map (grown_behind l.slots l.before l.more) (map class.Rest (numbers_from 0 (l.place - 0)));
  few : length (classes_of l.found.items) ≤ 4096;
}
