use Rattle.std.proofs.Common.{◌≡◌, drop}
use Rattle.std.specs.List.{flat_map}
use Rattle.smv_mentions.specs.Scopes.{first_of_places, pieces}
use Rattle.smv_mentions.specs.Said.{said}
use Rattle.smv_mentions.specs.NameFaults.{miscounted}
use Rattle.smv_first_fault.specs.Firsts.{least}
use Rattle.smv_scope.proofs.rules.miscounted_in.Given as goal

abbrev pub invariant-loop-mention : goal.invariant-loop-mention
invariant-loop-mention l =
    first_of_places l.first (least (flat_map (λ mention. miscounted (pieces l.tables.text.now) (said mention)) (drop l.mention-index l.mentions)))
    ≡ least (flat_map (λ mention. miscounted (pieces l.tables.text.now) (said mention)) l.mentions)
