use Rattle.std.proofs.Common.{◌≡◌, ◌++◌, flat_map, drop}
use Rattle.smv_name_numbers.proofs.push_all.Given as goal

abbrev pub invariant-loop-names : goal.invariant-loop-names
invariant-loop-names l = l.index ++ flat_map (λ names. names) (drop l.names-index l.enums) ≡ l.initial.index ++ flat_map (λ names. names) l.enums
