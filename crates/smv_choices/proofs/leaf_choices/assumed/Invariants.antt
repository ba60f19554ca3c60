use Rattle.std.proofs.Common.{◌≡◌, ◌++◌, drop}
use Rattle.smv_choices.specs.Parts.{without_places}
use Rattle.smv_choices.proofs.leaf_choices.assumed.Given as goal

abbrev pub invariant-loop-used : goal.invariant-loop-used
invariant-loop-used l = l.out ++ without_places (drop l.used-index l.claims) ≡ without_places l.claims
