use Rattle.std.proofs.Common.{◌≡◌, ◌∙◌, ◌++◌, List, ap, ap₂}
use Rattle.std.proofs.lemmas.Result.{IfOk-weaker}
use Rattle.smv_core.specs.declared.flat.Family.{Family}
use Rattle.smv_look_lint.specs.declared.warnings.Warning.{Warning}
use Rattle.smv_look_lint.specs.Lint.{definition_warnings, in_order, known_of, warnings_from}
use Rattle.smv_look_lint.specs.Marks.{held_by}
use Rattle.smv_look_lint.proofs.KnownLaws.{warnings-same}
use Rattle.smv_look_lint.proofs.lint.warnings_of.Goals as goal

pub returns : goal.returns
returns c =
    let values : c.push_definitions.new.out.items ≡ definition_warnings c.args.plan.now.design =
    c.in_ok-push_definitions.ensures ∙ ap (λ (l : List Warning). l ++ definition_warnings c.args.plan.now.design) c.new-warnings.ensures.items in
    let families : warnings_from (held_by c.in_ok-marks.marks) 0 c.as_slice.result.now ≡ warnings_from (known_of c.args.tree.now c.args.plan.now) 0 c.args.plan.now.design.families =
    ap (λ (fs : List Family). warnings_from (held_by c.in_ok-marks.marks) 0 fs) c.as_slice.ensures
    ∙ warnings-same (held_by c.in_ok-marks.marks) (known_of c.args.tree.now c.args.plan.now) c.in_ok-marks.ensures 0 c.args.plan.now.design.families in
    IfOk-weaker c.in_order.result _ _ (λ sorted e. e ∙ ap in_order (c.in_ok-push_families.ensures ∙ ap₂ (λ (x y : List Warning). x ++ y) values families)) c.in_order.ensures
