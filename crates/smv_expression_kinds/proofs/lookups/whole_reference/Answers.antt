use Rattle.std.proofs.Common.{ap, sym, ◌∙◌}
use Rattle.std.specs.Prelude.{option_map}
use Rattle.smv_expression_kinds.specs.Found.{whole_of, scope_of, vars_of}
use Rattle.smv_expression_kinds.proofs.ScopeLaws.{as-variable, as-signal, as-constant}
use Rattle.smv_expression_kinds.proofs.lookups.whole_reference.Goals as goal

pub returns-in-Some : goal.returns-in-Some
returns-in-Some c =
    let scope = scope_of c.args.scope.now in
    sym (as-variable scope (vars_of c.args.scope.now.tables.now.names c.args.vars.now) c.args.parts.now (whole_of c.args.scope.now.tables.now.names c.in-Some.whole) (sym (c.variable_reference.ensures c.args.scope.now.tables.now.names scope) ∙ ap (option_map (whole_of c.args.scope.now.tables.now.names)) c.in-Some.is))

pub returns-in-Some-2 : goal.returns-in-Some-2
returns-in-Some-2 c =
    let scope = scope_of c.args.scope.now in
    sym (as-signal scope (vars_of c.args.scope.now.tables.now.names c.args.vars.now) c.args.parts.now (whole_of c.args.scope.now.tables.now.names c.in-Some-2.whole) (sym (c.variable_reference.ensures c.args.scope.now.tables.now.names scope) ∙ ap (option_map (whole_of c.args.scope.now.tables.now.names)) c.in-None.is)
    (sym c.in_ok-whole-in-None.ensures ∙ ap (option_map (whole_of c.args.scope.now.tables.now.names)) c.in-Some-2.is))

pub returns-in-None-2 : goal.returns-in-None-2
returns-in-None-2 c =
    let scope = scope_of c.args.scope.now in
    c.constant_reference.ensures
    ∙ sym (as-constant scope (vars_of c.args.scope.now.tables.now.names c.args.vars.now) c.args.parts.now (sym (c.variable_reference.ensures c.args.scope.now.tables.now.names scope) ∙ ap (option_map (whole_of c.args.scope.now.tables.now.names)) c.in-None.is)
    (sym c.in_ok-whole-in-None.ensures ∙ ap (option_map (whole_of c.args.scope.now.tables.now.names)) c.in-None-2.is))
