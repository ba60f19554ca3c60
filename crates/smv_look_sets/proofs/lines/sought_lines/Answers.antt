use Rattle.std.proofs.Common.{◌∙◌, ap, get_or, sym}
use Rattle.std.proofs.lemmas.Result.{IfOk-weaker}
use Rattle.smv_core.specs.declared.flat.Leaf.{Leaf}
use Rattle.smv_core.specs.declared.flat.Unit.TheVariants.{Map}
use Rattle.smv_plan_reports.proofs.PlanLaws.{copied_at, each_leaf, part_at}
use Rattle.smv_look_sets.specs.Sought.{sought_text}
use Rattle.smv_look_sets.proofs.PlaceLaws.{counted_at, told_at}
use Rattle.smv_look_sets.proofs.lines.sought_lines.Goals as goal

pub returns-in-Sets : goal.returns-in-Sets
returns-in-Sets c = IfOk-weaker c.lines_of_sets.result _ _ (λ lines is entry there. is ∙ ap (sought_text c.args.plan.now.design entry) (sym c.in-Sets.is)) c.lines_of_sets.ensures

pub returns-in-Open : goal.returns-in-Open
returns-in-Open c =
    IfOk-weaker c.open_lines.result _ _
    (λ lines is entry there.
    is
    ∙ (told_at c.args.plan.now c.requires.plan c.args.u (get_or c.as_slice.result.now c.args.u (Map 0)) c.index-as_slice-u.result c.as_slice-params.result.now c.requires.there
    (copied_at c.args.plan.now.units c.as_slice.result.now c.args.u (Map 0) c.as_slice.ensures c.requires.there)
    (part_at c.args.plan.now.leaves c.as_slice-2.result.now c.args.u c.index-as_slice-u.result c.as_slice-2.ensures (each_leaf c.args.plan.now c.requires.plan c.args.u c.requires.there) c.index-as_slice-u.is)
    (c.as_slice-params.ensures ∙ ap (λ (l : Leaf). l.params) (sym c.index-as_slice-u.is)) entry there c.in-Open.verdict
    ∙ ap (sought_text c.args.plan.now.design entry) (sym c.in-Open.is)))
    c.open_lines.ensures

pub returns-in-NoCase : goal.returns-in-NoCase
returns-in-NoCase c =
    IfOk-weaker c.count_line.result _ _
    (λ lines is entry there.
    is
    ∙ (counted_at c.args.plan.now c.requires.plan c.args.u (get_or c.as_slice.result.now c.args.u (Map 0)) c.index-as_slice-u.result c.requires.there
    (copied_at c.args.plan.now.units c.as_slice.result.now c.args.u (Map 0) c.as_slice.ensures c.requires.there)
    (part_at c.args.plan.now.leaves c.as_slice-2.result.now c.args.u c.index-as_slice-u.result c.as_slice-2.ensures (each_leaf c.args.plan.now c.requires.plan c.args.u c.requires.there) c.index-as_slice-u.is)
    entry there c.in-NoCase.count
    ∙ ap (sought_text c.args.plan.now.design entry) (sym c.in-NoCase.is)))
    c.count_line.ensures
