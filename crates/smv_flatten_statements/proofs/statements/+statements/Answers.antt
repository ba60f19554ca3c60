use Rattle.std.proofs.Common.{◌≡◌, IfOk, ap, subst, ◌∙◌}
use Rattle.smv_core.specs.declared.flat.FlatStmt.{FlatStmt}
use Rattle.smv_flatten_families.specs.Held.{scope_here}
use Rattle.smv_flatten_statements.specs.Around.{around_of}
use Rattle.smv_flatten_statements.specs.Flattened.{expression_of, statement_of, arms_of}
use Rattle.smv_flatten_statements.proofs.StatementLaws.{if-made, switch-made}
use Rattle.smv_flatten_statements.proofs.statements.+statements.Goals as goal

pub statement-returns-in_ok-no-in-If : goal.statement-returns-in_ok-no-in-If
statement-returns-in_ok-no-in-If t c =
    let vars = around_of c.args.vars.now in
    if-made (scope_here c.args.here) vars c.args.act.now c.in-If.cond c.in-If.yes c.in-If.no c.in-If.at _ _ _ c.in-If.is c.in_ok-cond-in-If.ensures
    (c.in_ok-yes-in-If.ensures ∙ ap (statement_of (scope_here c.args.here) vars) c.get.ensures) (c.in_ok-no-in-If.ensures ∙ c.in_ok-branch-in-If.ensures)

pub statement-returns-in_ok-other-in-Switch : goal.statement-returns-in_ok-other-in-Switch
statement-returns-in_ok-other-in-Switch t c =
    let vars = around_of c.args.vars.now in
    let on = expression_of (scope_here c.args.here) vars c.in-Switch.on in
    let e : arms_of (scope_here c.args.here) vars on c.in_ok-other-in-Switch.other c.as_slice-in-Switch.result.now ≡ statement_of (scope_here c.args.here) vars c.args.act.now =
    switch-made (scope_here c.args.here) vars c.args.act.now c.in-Switch.on c.in-Switch.arms _ c.in-Switch.other c.in-Switch.at _ c.in-Switch.is c.as_slice-in-Switch.ensures c.in_ok-other-in-Switch.ensures in
    subst (λ (s : FlatStmt). IfOk c.all_arms.result (λ x. x ≡ s)) e c.all_arms.ensures
