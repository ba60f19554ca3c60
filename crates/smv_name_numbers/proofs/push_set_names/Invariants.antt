use Rattle.std.proofs.Common.{◌≡◌, ◌++◌, map, drop}
use Rattle.smv_name_numbers.proofs.push_set_names.Given as goal

abbrev pub invariant-loop-info : goal.invariant-loop-info
invariant-loop-info l = l.index ++ map (λ info. info.name) (drop l.info-index l.sets) ≡ l.initial.index ++ map (λ info. info.name) l.sets
