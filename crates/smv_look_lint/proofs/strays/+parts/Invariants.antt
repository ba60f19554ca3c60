use Rattle.std.proofs.Common.{◌≡◌, ◌++◌, drop}
use Rattle.std.specs.List.{flat_map}
use Rattle.smv_look_lint.specs.Strays.{part_strays}
use Rattle.smv_look_lint.proofs.strays.+parts.Given as goal

abbrev pub invariant-push_parts-loop-part : goal.invariant-push_parts-loop-part
invariant-push_parts-loop-part l = l.out.items ++ flat_map (part_strays l.family l.over) (drop l.part-index l.parts) ≡ l.initial.out.items ++ flat_map (part_strays l.family l.over) l.parts
