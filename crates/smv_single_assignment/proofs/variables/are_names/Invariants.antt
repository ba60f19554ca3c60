use Rattle.std.proofs.Common.{◌≡◌, length, map}
use Rattle.smv_core.specs.Outcome.{same_path}
use Rattle.smv_core.specs.Types.{names_of}
use Rattle.smv_core.specs.declared.flat.Param.{Param}
use Rattle.smv_single_assignment.proofs.variables.are_names.Given as goal

abbrev pub invariant-loop-words : goal.invariant-loop-words
invariant-loop-words l = same_path (names_of l.words) (map (λ (p : Param). p.name) l.names) ≡ same_path (names_of l.vars) (map (λ (p : Param). p.name) l.params)

abbrev pub decreases-loop-words : goal.decreases-loop-words
decreases-loop-words l = length l.words
