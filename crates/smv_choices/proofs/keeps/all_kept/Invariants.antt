use Rattle.std.proofs.Common.{◌≡◌, ◌++◌, drop}
use Rattle.std.specs.List.{flat_map}
use Rattle.smv_choices.specs.Parts.{kept_one}
use Rattle.smv_choices.proofs.keeps.all_kept.Given as goal

abbrev pub invariant-loop-x : goal.invariant-loop-x
invariant-loop-x l = l.kept.items ++ flat_map (kept_one l.sets) (drop l.x-index l.uses) ≡ flat_map (kept_one l.sets) l.uses
