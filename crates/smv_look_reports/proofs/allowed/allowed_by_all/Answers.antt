use Rattle.std.proofs.Common.{◌∙◌, List, ap, arith, length, sym}
use Rattle.std.specs.Prelude.{slice_get}
use Rattle.std.proofs.lemmas.Option.{slice_get-get_or}
use Rattle.smv_core.specs.declared.flat.Leaf.{Leaf}
use Rattle.smv_core.specs.declared.flat.Choice.{Choice}
use Rattle.smv_core.specs.declared.flat.Timed.{Timed}
use Rattle.law_valid_texts.specs.Faultless.{script_of_plan}
use Rattle.smv_look_reports.proofs.AllowedLaws.{of_result, one_more}
use Rattle.smv_look_reports.proofs.Steps.{there}
use Rattle.smv_look_reports.proofs.allowed.allowed_by_all.Goals as goal

pub loop-u-preserved : goal.loop-u-preserved
loop-u-preserved c =
    let test = c.loop-u-test.true in
    let leaves = ap (λ (xs : List Leaf). length xs) c.as_slice-leaves.ensures in
    let choices = ap (λ (xs : List Choice). length xs) c.as_slice-choices.ensures in
    let timed = ap (λ (xs : List Timed). length xs) c.as_slice-timed.ensures in
    let each_leaf = c.requires.whole.leaves in
    let each_choice = c.requires.whole.choices in
    let each_time = c.requires.timed in
    let each_result = c.requires.results in
    one_more (script_of_plan c.args.plan.now) c.args.results.now c.loop-u.u c.loop-u.allowed c.push.new.self c.in_ok-values.values c.in_ok-push.ensures.ok c.loop-u.invariant
    (of_result c.args.plan.now c.requires.whole c.loop-u.u c.index-leaves-u.result c.index-choices-u.result c.index-timed-u.result
    (ap (λ (xs : List Leaf). slice_get xs c.loop-u.u) (sym c.as_slice-leaves.ensures) ∙ there c.as_slice-leaves.result.now c.loop-u.u c.index-leaves-u.result (omega (arith, test, leaves, each_leaf, each_result)) c.index-leaves-u.is)
    (ap (λ (xs : List Choice). slice_get xs c.loop-u.u) (sym c.as_slice-choices.ensures) ∙ there c.as_slice-choices.result.now c.loop-u.u c.index-choices-u.result (omega (arith, test, choices, each_choice, each_result)) c.index-choices-u.is)
    (ap (λ (xs : List Timed). slice_get xs c.loop-u.u) (sym c.as_slice-timed.ensures) ∙ there c.as_slice-timed.result.now c.loop-u.u c.index-timed-u.result (omega (arith, test, timed, each_time, each_result)) c.index-timed-u.is)
    c.args.results.now _ c.in_ok-values.values (slice_get-get_or c.args.results.now c.loop-u.u c.index-results-u.result test) c.in_ok-values.ensures)
