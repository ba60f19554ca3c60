use Rattle.std.proofs.Common.{◌≡◌, ◌++◌, drop}
use Rattle.smv_choices.specs.Parts.{kept_from}
use Rattle.smv_choices.proofs.keeps.kept_params.Given as goal

abbrev pub invariant-loop-index : goal.invariant-loop-index
invariant-loop-index l = l.params.items ++ kept_from l.index (drop l.index l.brackets) l.names ≡ kept_from 0 l.brackets l.names
