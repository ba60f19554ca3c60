use Rattle.std.proofs.Common.{◌≡◌, List, Some, None, IfOk, ap, subst, sym, ◌∙◌}
use Rattle.smv_core.specs.Outcome.{fields_of}
use Rattle.smv_core.specs.declared.tree.Part.{Part}
use Rattle.smv_core.specs.declared.flat.FlatExpr.{FlatExpr, Read}
use Rattle.law_designs.specs.Numbers.{variable_at, constant_in, flat_path}
use Rattle.smv_flatten_families.specs.Held.{scope_here}
use Rattle.smv_flatten_statements.specs.Around.{around_of}
use Rattle.smv_flatten_statements.specs.Flattened.{path_indexes}
use Rattle.smv_flatten_statements.proofs.PathLaws.{looked_for, path-constant, path-element}
use Rattle.smv_flatten_statements.proofs.expressions.+expressions.Goals as goal

pub path_expression-returns-in-None-2 : goal.path_expression-returns-in-None-2
path_expression-returns-in-None-2 t c =
    let parts : List Part = c.as_slice-parts.result.now in
    let at = c.args.path.now.at in
    let free : variable_at (around_of c.args.vars.now) (fields_of parts) at ≡ None = sym c.in_ok-variable.ensures ∙ c.in-None.is in
    let none : None ≡ looked_for c.args.here (fields_of parts) = sym c.in-None-2.is ∙ c.in_ok-signal-in-None.ensures in
    let whole = λ (ps : List Part). flat_path (scope_here c.args.here) (around_of c.args.vars.now) (fields_of ps) (path_indexes (scope_here c.args.here) (around_of c.args.vars.now) ps) at in
    let e : constant_in (scope_here c.args.here) (fields_of parts) at ≡ whole c.args.path.now.parts = path-constant c.args.here (around_of c.args.vars.now) (fields_of parts) _ at free none ∙ ap whole c.as_slice-parts.ensures in
    subst (λ (f : FlatExpr). IfOk c.constant.result (λ x. x ≡ f)) e c.constant.ensures

pub path_expression-returns-in_ok-indexes-in-Some-2 : goal.path_expression-returns-in_ok-indexes-in-Some-2
path_expression-returns-in_ok-indexes-in-Some-2 t c =
    let parts : List Part = c.as_slice-parts.result.now in
    let at = c.args.path.now.at in
    let free : variable_at (around_of c.args.vars.now) (fields_of parts) at ≡ None = sym c.in_ok-variable.ensures ∙ c.in-None.is in
    let some : Some c.in-Some-2.family ≡ looked_for c.args.here (fields_of parts) = sym c.in-Some-2.is ∙ c.in_ok-signal-in-None.ensures in
    let whole = λ (ps : List Part). flat_path (scope_here c.args.here) (around_of c.args.vars.now) (fields_of ps) (path_indexes (scope_here c.args.here) (around_of c.args.vars.now) ps) at in
    ap (λ l. Read c.in-Some-2.family l at) c.in_ok-indexes-in-Some-2.ensures ∙ path-element c.args.here (around_of c.args.vars.now) (fields_of parts) _ at c.in-Some-2.family free some ∙ ap whole c.as_slice-parts.ensures
