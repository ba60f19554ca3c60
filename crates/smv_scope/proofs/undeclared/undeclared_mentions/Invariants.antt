use Rattle.std.proofs.Common.{◌≡◌, drop}
use Rattle.std.specs.List.{flat_map}
use Rattle.smv_mentions.specs.Scopes.{first_of_places}
use Rattle.smv_mentions.specs.Said.{said}
use Rattle.smv_mentions.specs.NameFaults.{undeclared}
use Rattle.smv_first_fault.specs.Firsts.{least}
use Rattle.smv_scope.specs.Numbered.{scope_at}
use Rattle.smv_scope.proofs.undeclared.undeclared_mentions.Given as goal

abbrev pub invariant-loop-mention : goal.invariant-loop-mention
invariant-loop-mention l =
    first_of_places l.first (least (flat_map (λ mention. undeclared (scope_at l.tables.text.now l.place) l.formals.words.now (said mention)) (drop l.mention-index l.mentions)))
    ≡ least (flat_map (λ mention. undeclared (scope_at l.tables.text.now l.place) l.formals.words.now (said mention)) l.mentions)
