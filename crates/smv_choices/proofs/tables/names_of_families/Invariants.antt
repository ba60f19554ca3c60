use Rattle.std.proofs.Common.{◌≡◌, ◌++◌, map, drop}
use Rattle.smv_choices.proofs.tables.names_of_families.Given as goal

abbrev pub invariant-loop-family : goal.invariant-loop-family
invariant-loop-family l = l.names ++ map (λ family. family.name) (drop l.family-index l.families) ≡ map (λ family. family.name) l.families
