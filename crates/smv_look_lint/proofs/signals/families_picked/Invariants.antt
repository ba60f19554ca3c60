use Rattle.std.proofs.Common.{◌≡◌, ◌++◌, drop}
use Rattle.std.specs.List.{flat_map}
use Rattle.smv_core.specs.declared.flat.Choice.{Choice}
use Rattle.smv_look_lint.specs.Signals.{families_picked, picked}
use Rattle.smv_look_lint.proofs.signals.families_picked.Given as goal

abbrev pub invariant-loop-choice : goal.invariant-loop-choice
invariant-loop-choice l = l.families.items ++ flat_map (λ (choice : Choice). flat_map picked choice.picks) (drop l.choice-index l.choices) ≡ families_picked l.choices
