use Rattle.std.proofs.Common.{◌∙◌, ◌<◌, List, get_or, length, subst, sym}
use Rattle.smv_core.specs.declared.flat.Timed.{Timed}
use Rattle.smv_core.specs.declared.flat.Unit.TheVariants.{Map}
use Rattle.smv_plan_reports.proofs.PlanLaws.{copied_at, each_choice, each_leaf, each_timed, part_at}
use Rattle.law_checked_proofs.specs.Cases.{UnitCase}
use Rattle.smv_look_sets.specs.Sought.{IsSought}
use Rattle.smv_look_sets.proofs.PlaceLaws.{cases_are, table_is}
use Rattle.smv_look_sets.proofs.sets_at.Goals as goal

pub bounds-as_slice-u-3 : goal.bounds-as_slice-u-3
bounds-as_slice-u-3 c = subst (λ (xs : List Timed). c.args.u < length xs) (sym c.as_slice-3.ensures) (each_timed c.args.plan.now c.requires.plan c.args.u c.requires.there)

pub seek-requires-clause-task : goal.seek-requires-clause-task
seek-requires-clause-task c = record {
  units = c.as_slice-units.ensures ∙ c.requires.plan.units;
  part =
      c.requires.plan.parts c.args.u c.index-as_slice-u.result c.index-as_slice-u-2.result
      (part_at c.args.plan.now.leaves c.as_slice.result.now c.args.u c.index-as_slice-u.result c.as_slice.ensures (each_leaf c.args.plan.now c.requires.plan c.args.u c.requires.there) c.index-as_slice-u.is)
      (part_at c.args.plan.now.choices c.as_slice-2.result.now c.args.u c.index-as_slice-u-2.result c.as_slice-2.ensures (each_choice c.args.plan.now c.requires.plan c.args.u c.requires.there) c.index-as_slice-u-2.is);
  table =
      table_is c.args.plan.now.design c.as_slice-units.result.now c.as_slice-4.result.now c.index-as_slice-u-2.result.picks c.in_ok-table.table.items c.as_slice-5.result.now (c.as_slice-units.ensures ∙ c.requires.plan.units) c.as_slice-4.ensures c.as_slice-5.ensures.value
      c.in_ok-table.ensures;
}

pub seek-requires-clause-room : goal.seek-requires-clause-room
seek-requires-clause-room c =
    c.requires.plan.room c.args.u c.index-as_slice-u.result c.index-as_slice-u-2.result
    (part_at c.args.plan.now.leaves c.as_slice.result.now c.args.u c.index-as_slice-u.result c.as_slice.ensures (each_leaf c.args.plan.now c.requires.plan c.args.u c.requires.there) c.index-as_slice-u.is)
    (part_at c.args.plan.now.choices c.as_slice-2.result.now c.args.u c.index-as_slice-u-2.result c.as_slice-2.ensures (each_choice c.args.plan.now c.requires.plan c.args.u c.requires.there) c.index-as_slice-u-2.is)

pub returns : goal.returns
returns c = λ entry is.
    subst (λ (cases : List UnitCase). IsSought c.args.budgets.nodes c.args.budgets.steps cases c.args.case c.in_ok-sought.sought)
    (cases_are c.args.plan.now c.requires.plan c.args.u (get_or c.as_slice-units.result.now c.args.u (Map 0)) c.index-as_slice-u.result c.index-as_slice-u-2.result c.index-as_slice-u-3.result
    (copied_at c.args.plan.now.units c.as_slice-units.result.now c.args.u (Map 0) c.as_slice-units.ensures c.requires.there)
    (part_at c.args.plan.now.leaves c.as_slice.result.now c.args.u c.index-as_slice-u.result c.as_slice.ensures (each_leaf c.args.plan.now c.requires.plan c.args.u c.requires.there) c.index-as_slice-u.is)
    (part_at c.args.plan.now.choices c.as_slice-2.result.now c.args.u c.index-as_slice-u-2.result c.as_slice-2.ensures (each_choice c.args.plan.now c.requires.plan c.args.u c.requires.there) c.index-as_slice-u-2.is)
    (part_at c.args.plan.now.timed c.as_slice-3.result.now c.args.u c.index-as_slice-u-3.result c.as_slice-3.ensures (each_timed c.args.plan.now c.requires.plan c.args.u c.requires.there) c.index-as_slice-u-3.is)
    c.in_ok-name.name c.in_ok-name.ensures entry is)
    c.in_ok-sought.ensures
