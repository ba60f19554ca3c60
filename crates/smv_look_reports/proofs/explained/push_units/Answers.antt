use Rattle.std.proofs.Common.{◌∙◌, ◌++◌, List, ap, arith, length}
use Rattle.std.specs.Prelude.{get_or}
use Rattle.std.proofs.lemmas.Option.{slice_get-get_or}
use Rattle.smv_core.specs.declared.flat.Unit.{Unit}
use Rattle.smv_core.specs.declared.flat.Unit.TheVariants.{Map}
use Rattle.smv_core.specs.declared.flat.Leaf.{Leaf}
use Rattle.smv_core.specs.declared.flat.Choice.{Choice}
use Rattle.smv_core.specs.declared.flat.Timed.{Timed}
use Rattle.smv_problem.specs.declared.problem.AbsValue.{AbsValue}
use Rattle.smv_look_reports.specs.Explained.{unit_lines}
use Rattle.smv_look_reports.proofs.Steps.{one_unit, there}
use Rattle.smv_look_reports.proofs.explained.push_units.Goals as goal

pub loop-u-preserved : goal.loop-u-preserved
loop-u-preserved c =
    let test = c.loop-u-test.true in
    let units = ap (λ (xs : List Unit). length xs) c.as_slice-units.ensures in
    let leaves = ap (λ (xs : List Leaf). length xs) c.as_slice-leaves.ensures in
    let choices = ap (λ (xs : List Choice). length xs) c.as_slice-choices.ensures in
    let timed = ap (λ (xs : List Timed). length xs) c.as_slice-timed.ensures in
    let each_leaf = c.requires.leaves in
    let each_choice = c.requires.choices in
    let each_time = c.requires.timed in
    let each_result = c.requires.results in
    let each_allowed = c.requires.allowed in
    one_unit c.args.plan.now.design c.args.plan.now.units c.as_slice-units.result.now c.args.results.now c.loop-u.u c.as_slice-leaves.result.now c.as_slice-choices.result.now c.as_slice-timed.result.now c.args.results.now c.args.allowed.now
    (get_or c.as_slice-units.result.now c.loop-u.u (Map 0)) c.index-leaves-u.result c.index-choices-u.result c.index-timed-u.result c.index-results-u.result c.index-allowed-u.result c.loop-u.out.items c.push_unit.new.out.items _ c.as_slice-units.ensures
    (slice_get-get_or c.as_slice-units.result.now c.loop-u.u (Map 0) test)
    (there c.as_slice-leaves.result.now c.loop-u.u c.index-leaves-u.result (omega (arith, test, units, leaves, each_leaf)) c.index-leaves-u.is)
    (there c.as_slice-choices.result.now c.loop-u.u c.index-choices-u.result (omega (arith, test, units, choices, each_choice)) c.index-choices-u.is)
    (there c.as_slice-timed.result.now c.loop-u.u c.index-timed-u.result (omega (arith, test, units, timed, each_time)) c.index-timed-u.is)
    (there c.args.results.now c.loop-u.u c.index-results-u.result (omega (arith, test, units, each_result)) c.index-results-u.is)
    (there c.args.allowed.now c.loop-u.u c.index-allowed-u.result (omega (arith, test, units, each_allowed)) c.index-allowed-u.is)
    (c.in_ok-push_unit.ensures ∙ ap (λ (values : List AbsValue). c.loop-u.out.items ++ unit_lines (record { design = c.args.plan.now.design; units = c.as_slice-units.result.now }) c.args.results.now (get_or c.as_slice-units.result.now c.loop-u.u (Map 0)) c.index-leaves-u.result c.index-choices-u.result c.index-timed-u.result c.index-results-u.result values) c.as_slice.ensures) c.loop-u.invariant
