use Rattle.std.proofs.Common.{◌≡◌, drop}
use Rattle.std.specs.List.{flat_map}
use Rattle.smv_mentions.specs.Scopes.{first_of_places}
use Rattle.smv_first_fault.specs.Firsts.{least}
use Rattle.law_splits.specs.SplitFaults as splits
use Rattle.smv_splits.proofs.misfits.first_misfit.Given as goal

abbrev pub invariant-loop-split : goal.invariant-loop-split
invariant-loop-split l = first_of_places l.found (least (flat_map (splits.misfits l.families) (drop l.split-index l.splits))) ≡ least (flat_map (splits.misfits l.families) l.splits)
