use Rattle.std.proofs.Common.{◌≡◌, ◌++◌, map, drop}
use Rattle.smv_choices.proofs.tables.names_of_sets.Given as goal

abbrev pub invariant-loop-info : goal.invariant-loop-info
invariant-loop-info l = l.names ++ map (λ info. info.name) (drop l.info-index l.sets) ≡ map (λ info. info.name) l.sets
