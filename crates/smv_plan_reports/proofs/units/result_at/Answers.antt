use Rattle.std.proofs.Common.{◌∙◌, ◌<◌, sym, subst, length, get_or, List}
use Rattle.smv_core.specs.declared.flat.Timed.{Timed}
use Rattle.smv_core.specs.declared.flat.Unit.{Unit}
use Rattle.smv_core.specs.declared.flat.Unit.TheVariants.{Map}
use Rattle.smv_chosen_table.specs.Tables.{IsIndex}
use Rattle.smv_plan_reports.proofs.PlanLaws.{each_leaf, each_choice, each_timed, part_at, copied_at, result_is}
use Rattle.smv_plan_reports.proofs.units.result_at.Goals as goal

pub bounds-as_slice-u-3 : goal.bounds-as_slice-u-3
bounds-as_slice-u-3 c = subst (λ (xs : List Timed). c.args.u < length xs) (sym c.as_slice-3.ensures) (each_timed c.args.plan.now c.requires.plan c.args.u c.requires.there)

pub decide_in-requires-clause-units : goal.decide_in-requires-clause-units
decide_in-requires-clause-units c = c.as_slice-units.ensures ∙ c.requires.plan.units

pub decide_in-requires-clause-part : goal.decide_in-requires-clause-part
decide_in-requires-clause-part c =
    c.requires.plan.parts c.args.u c.index-as_slice-u.result c.index-as_slice-u-2.result
    (part_at c.args.plan.now.leaves c.as_slice.result.now c.args.u c.index-as_slice-u.result c.as_slice.ensures (each_leaf c.args.plan.now c.requires.plan c.args.u c.requires.there) c.index-as_slice-u.is)
    (part_at c.args.plan.now.choices c.as_slice-2.result.now c.args.u c.index-as_slice-u-2.result c.as_slice-2.ensures (each_choice c.args.plan.now c.requires.plan c.args.u c.requires.there) c.index-as_slice-u-2.is)

pub decide_in-requires-clause-room : goal.decide_in-requires-clause-room
decide_in-requires-clause-room c =
    c.requires.plan.room c.args.u c.index-as_slice-u.result c.index-as_slice-u-2.result
    (part_at c.args.plan.now.leaves c.as_slice.result.now c.args.u c.index-as_slice-u.result c.as_slice.ensures (each_leaf c.args.plan.now c.requires.plan c.args.u c.requires.there) c.index-as_slice-u.is)
    (part_at c.args.plan.now.choices c.as_slice-2.result.now c.args.u c.index-as_slice-u-2.result c.as_slice-2.ensures (each_choice c.args.plan.now c.requires.plan c.args.u c.requires.there) c.index-as_slice-u-2.is)

pub decide_in-requires-clause-index : goal.decide_in-requires-clause-index
decide_in-requires-clause-index c = subst (λ (units : List Unit). IsIndex c.args.plan.now.design units c.args.index.now) (sym c.as_slice-units.ensures) c.requires.index

pub returns-clause-result : goal.returns-clause-result
returns-clause-result c =
    result_is c.args.plan.now c.requires.plan c.args.u (get_or c.as_slice-units.result.now c.args.u (Map 0)) c.index-as_slice-u.result c.index-as_slice-u-2.result c.index-as_slice-u-3.result
    (copied_at c.args.plan.now.units c.as_slice-units.result.now c.args.u (Map 0) c.as_slice-units.ensures c.requires.there)
    (part_at c.args.plan.now.leaves c.as_slice.result.now c.args.u c.index-as_slice-u.result c.as_slice.ensures (each_leaf c.args.plan.now c.requires.plan c.args.u c.requires.there) c.index-as_slice-u.is)
    (part_at c.args.plan.now.choices c.as_slice-2.result.now c.args.u c.index-as_slice-u-2.result c.as_slice-2.ensures (each_choice c.args.plan.now c.requires.plan c.args.u c.requires.there) c.index-as_slice-u-2.is)
    (part_at c.args.plan.now.timed c.as_slice-3.result.now c.args.u c.index-as_slice-u-3.result c.as_slice-3.ensures (each_timed c.args.plan.now c.requires.plan c.args.u c.requires.there) c.index-as_slice-u-3.is)
    c.args.bits c.args.budgets.nodes c.args.budgets.steps c.in_ok-name.name c.in_ok-params.params c.in_ok-told.told.verdict c.in_ok-name.ensures (c.in_ok-params.ensures ∙ c.as_slice-4.ensures) c.in_ok-told.ensures.told
