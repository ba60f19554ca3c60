use Rattle.std.proofs.Common.{◌≡◌, ◌++◌, drop}
use Rattle.std.specs.List.{flat_map}
use Rattle.smv_core.specs.declared.tree.Field.{out-Field}
use Rattle.law_designs.specs.Types.{type_faults}
use Rattle.smv_expression_kinds.specs.Found.{scope_of}
use Rattle.smv_operand_kinds.proofs.types.+types.Given as goal

abbrev pub invariant-field_faults-loop-field : goal.invariant-field_faults-loop-field
invariant-field_faults-loop-field l =
    l.out.items ++ flat_map (λ field. type_faults (scope_of l.scope).here.types (out-Field field).of) (drop l.field-index l.fields)
    ≡ l.initial.out.items ++ flat_map (λ field. type_faults (scope_of l.scope).here.types (out-Field field).of) l.fields
