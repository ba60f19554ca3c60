use Rattle.std.proofs.Common.{◌≡◌, ◌++◌, drop}
use Rattle.std.specs.List.{flat_map}
use Rattle.smv_look_lint.specs.Signals.{picked}
use Rattle.smv_look_lint.proofs.signals.push_picks.Given as goal

abbrev pub invariant-loop-pick : goal.invariant-loop-pick
invariant-loop-pick l = l.out.items ++ flat_map picked (drop l.pick-index l.picks) ≡ l.initial.out.items ++ flat_map picked l.picks
