use Rattle.std.proofs.Common.{◌≡◌, drop}
use Rattle.std.specs.List.{flat_map}
use Rattle.smv_mentions.specs.Scopes.{first_of_places, pieces}
use Rattle.smv_first_fault.specs.Firsts.{least}
use Rattle.smv_scope.specs.Rules.{broken}
use Rattle.smv_scope.proofs.rules.first_broken.Given as goal

abbrev pub invariant-loop-place : goal.invariant-loop-place
invariant-loop-place l =
    first_of_places l.first (least (flat_map (broken l.rule (pieces l.tables.text.now)) (drop l.place (pieces l.tables.text.now)))) ≡ least (flat_map (broken l.rule (pieces l.tables.text.now)) (pieces l.tables.text.now))
