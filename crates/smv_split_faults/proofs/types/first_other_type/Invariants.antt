use Rattle.std.proofs.Common.{◌≡◌, drop}
use Rattle.smv_mentions.specs.Scopes.{first_of_places}
use Rattle.smv_first_fault.specs.Firsts.{least}
use Rattle.law_splits.specs.Chains.{other_types}
use Rattle.smv_split_faults.proofs.types.first_other_type.Given as goal

abbrev pub invariant-loop-place : goal.invariant-loop-place
invariant-loop-place l = first_of_places l.found (least (other_types l.bound (drop l.place l.words) (drop l.place l.types))) ≡ least (other_types l.bound l.words l.types)
