use Rattle.std.proofs.Common.{◌≡◌, drop}
use Rattle.smv_core.specs.Types.{find_name}
use Rattle.smv_scope.specs.declared.tables.Tables.{Tables as ScopeTables}
use Rattle.smv_expression_kinds.specs.Found.{vars_of}
use Rattle.smv_expression_kinds.proofs.lookups.variable_kind.Given as goal

abbrev pub invariant-loop-var : goal.invariant-loop-var
invariant-loop-var l = (names : ScopeTables) → find_name (vars_of names (drop l.var-index l.vars)) l.name ≡ find_name (vars_of names l.vars) l.name
