use Rattle.std.specs.Prelude.{◌≡◌, ◌++◌, length}
use Rattle.smv_look_lines.specs.Lists.{pick_lines}
use Rattle.smv_look_lines.proofs.choices.push_picks.Given as goal

abbrev pub invariant-loop-picks : goal.invariant-loop-picks
invariant-loop-picks l = l.out.items ++ pick_lines l.design l.picks l.times ≡ l.initial.out.items ++ pick_lines l.design l.initial.picks l.initial.times

abbrev pub decreases-loop-picks : goal.decreases-loop-picks
decreases-loop-picks l = length l.picks
