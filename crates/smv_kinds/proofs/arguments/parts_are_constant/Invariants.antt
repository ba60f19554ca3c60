use Rattle.std.proofs.Common.{◌≡◌, drop}
use Rattle.std.specs.List.{list_all}
use Rattle.smv_kinds.specs.Found.{part_constant}
use Rattle.smv_kinds.proofs.arguments.parts_are_constant.Given as goal

abbrev pub invariant-loop-part : goal.invariant-loop-part
invariant-loop-part l = list_all part_constant (drop l.part-index l.parts) ≡ list_all part_constant l.parts
