use Rattle.std.proofs.Common.{◌≡◌, drop}
use Rattle.std.specs.List.{flat_map}
use Rattle.smv_mentions.specs.Scopes.{first_of_places}
use Rattle.smv_mentions.specs.NameFaults as faults
use Rattle.smv_mentions.specs.Said.{said}
use Rattle.smv_first_fault.specs.Firsts.{least}
use Rattle.smv_scope.specs.Numbered.{scope_at}
use Rattle.smv_scope.proofs.doubled.doubled_mentions.Given as goal

abbrev pub invariant-loop-mention : goal.invariant-loop-mention
invariant-loop-mention l = first_of_places l.first (least (flat_map (λ mention. faults.doubled (scope_at l.tables.text.now l.place) (said mention)) (drop l.mention-index l.mentions))) ≡ least (flat_map (λ mention. faults.doubled (scope_at l.tables.text.now l.place) (said mention)) l.mentions)
