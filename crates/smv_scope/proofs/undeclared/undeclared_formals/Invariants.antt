use Rattle.std.proofs.Common.{◌≡◌, drop}
use Rattle.std.specs.List.{flat_map}
use Rattle.smv_mentions.specs.Scopes.{first_of_places}
use Rattle.smv_mentions.specs.NameFaults.{formal_undeclared}
use Rattle.smv_first_fault.specs.Firsts.{least}
use Rattle.smv_scope.specs.Numbered.{scope_at}
use Rattle.smv_scope.proofs.undeclared.undeclared_formals.Given as goal

abbrev pub invariant-loop-word : goal.invariant-loop-word
invariant-loop-word l =
    first_of_places l.first (least (flat_map (formal_undeclared (scope_at l.tables.text.now l.place)) (drop l.word-index l.words))) ≡ least (flat_map (formal_undeclared (scope_at l.tables.text.now l.place)) l.words)
