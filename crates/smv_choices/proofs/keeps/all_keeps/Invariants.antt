use Rattle.std.proofs.Common.{◌≡◌, ◌++◌, map, drop}
use Rattle.smv_choices.specs.Parts.{keep_with}
use Rattle.smv_choices.proofs.keeps.all_keeps.Given as goal

abbrev pub invariant-loop-x : goal.invariant-loop-x
invariant-loop-x l = l.keeps.items ++ map (keep_with l.of) (drop l.x-index l.kept) ≡ map (keep_with l.of) l.kept
