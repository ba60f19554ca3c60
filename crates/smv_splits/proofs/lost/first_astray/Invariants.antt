use Rattle.std.proofs.Common.{◌≡◌, drop}
use Rattle.std.specs.List.{flat_map}
use Rattle.smv_mentions.specs.Scopes.{first_of_places}
use Rattle.smv_first_fault.specs.Firsts.{least}
use Rattle.law_splits.specs.SplitFaults.{astray}
use Rattle.smv_splits.proofs.lost.first_astray.Given as goal

abbrev pub invariant-loop-place : goal.invariant-loop-place
invariant-loop-place l = first_of_places l.found (least (flat_map (astray l.design) (drop l.place l.design.splits))) ≡ least (flat_map (astray l.design) l.design.splits)
