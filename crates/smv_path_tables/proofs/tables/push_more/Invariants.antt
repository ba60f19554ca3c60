use Rattle.std.proofs.Common.{◌≡◌, ◌++◌, codes, drop}
use Rattle.std.specs.List.{flat_map}
use Rattle.smv_path_tables.proofs.tables.push_more.Given as goal

abbrev pub invariant-loop-class : goal.invariant-loop-class
invariant-loop-class l = l.out.items ++ flat_map (λ other. codes ", " ++ other) (drop l.class-index l.classes) ≡ l.initial.out.items ++ flat_map (λ other. codes ", " ++ other) l.classes
