use Rattle.std.proofs.Common.{◌≡◌, ◌++◌, drop}
use Rattle.std.specs.List.{flat_map}
use Rattle.smv_print.specs.Written.{written}
use Rattle.smv_print.specs.Types.{field_kinds}
use Rattle.smv_print.proofs.types.+types.Given as goal

abbrev pub invariant-all_fields-loop-x : goal.invariant-all_fields-loop-x
invariant-all_fields-loop-x l = l.out.items ++ written (flat_map field_kinds (drop l.x-index l.fields)) ≡ l.initial.out.items ++ written (flat_map field_kinds l.fields)
