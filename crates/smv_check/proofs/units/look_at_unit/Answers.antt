use Rattle.std.proofs.Common.{◌∙◌, ◌<◌, sym, subst, length, get_or, List}
use Rattle.smv_core.specs.declared.flat.Timed.{Timed}
use Rattle.smv_core.specs.declared.flat.Unit.{Unit}
use Rattle.smv_core.specs.declared.flat.Unit.TheVariants.{Map}
use Rattle.law_obligations.specs.Units.{units_of}
use Rattle.smv_chosen_table.specs.Tables.{IsIndex}
use Rattle.smv_chosen_table.proofs.TableLaws.{table-shown}
use Rattle.smv_check.proofs.Leaves.{each_leaf, each_choice, each_timed, part_at, copied_at, unit_is_looked}
use Rattle.smv_check.proofs.units.look_at_unit.Goals as goal

pub bounds-as_slice-u-3 : goal.bounds-as_slice-u-3
bounds-as_slice-u-3 c = subst (λ (xs : List Timed). c.args.u < length xs) (sym c.as_slice-3.ensures) (each_timed c.args.plan.now c.requires.plan c.args.u c.requires.there)

pub choose-requires-clause-index : goal.choose-requires-clause-index
choose-requires-clause-index c = subst (λ (units : List Unit). IsIndex c.args.plan.now.design units c.args.index.now) (sym c.as_slice-units.ensures) c.requires.index

pub put_back-requires-clause-index : goal.put_back-requires-clause-index
put_back-requires-clause-index c = subst (λ (units : List Unit). IsIndex c.args.plan.now.design units c.args.index.now) (sym c.as_slice-units.ensures) c.requires.index

pub look_at_leaf-requires-clause-task : goal.look_at_leaf-requires-clause-task
look_at_leaf-requires-clause-task c = record {
  units = c.as_slice-units.ensures ∙ c.requires.plan.units;
  part =
      c.requires.plan.parts c.args.u c.index-as_slice-u.result c.index-as_slice-u-2.result
      (part_at c.args.plan.now.leaves c.as_slice.result.now c.args.u c.index-as_slice-u.result c.as_slice.ensures (each_leaf c.args.plan.now c.requires.plan c.args.u c.requires.there) c.index-as_slice-u.is)
      (part_at c.args.plan.now.choices c.as_slice-2.result.now c.args.u c.index-as_slice-u-2.result c.as_slice-2.ensures (each_choice c.args.plan.now c.requires.plan c.args.u c.requires.there) c.index-as_slice-u-2.is);
  table = table-shown c.args.plan.now.design c.as_slice-units.result.now (units_of c.args.plan.now.design) c.as_slice-picks.result.now c.index-as_slice-u-2.result.picks c.choose.new.table.items c.as_slice-4.result.now
      (c.as_slice-units.ensures ∙ c.requires.plan.units) c.as_slice-picks.ensures c.as_slice-4.ensures.value c.choose.ensures;
  sets = c.requires.sets;
  few = c.requires.few;
}

pub look_at_leaf-requires-clause-room : goal.look_at_leaf-requires-clause-room
look_at_leaf-requires-clause-room c =
    c.requires.plan.room c.args.u c.index-as_slice-u.result c.index-as_slice-u-2.result
    (part_at c.args.plan.now.leaves c.as_slice.result.now c.args.u c.index-as_slice-u.result c.as_slice.ensures (each_leaf c.args.plan.now c.requires.plan c.args.u c.requires.there) c.index-as_slice-u.is)
    (part_at c.args.plan.now.choices c.as_slice-2.result.now c.args.u c.index-as_slice-u-2.result c.as_slice-2.ensures (each_choice c.args.plan.now c.requires.plan c.args.u c.requires.there) c.index-as_slice-u-2.is)

pub returns-clause-looked : goal.returns-clause-looked
returns-clause-looked c =
    unit_is_looked c.args.plan.now c.requires.plan c.args.u (get_or c.as_slice-units.result.now c.args.u (Map 0)) c.index-as_slice-u.result c.index-as_slice-u-2.result c.index-as_slice-u-3.result
    (copied_at c.args.plan.now.units c.as_slice-units.result.now c.args.u (Map 0) c.as_slice-units.ensures c.requires.there)
    (part_at c.args.plan.now.leaves c.as_slice.result.now c.args.u c.index-as_slice-u.result c.as_slice.ensures (each_leaf c.args.plan.now c.requires.plan c.args.u c.requires.there) c.index-as_slice-u.is)
    (part_at c.args.plan.now.choices c.as_slice-2.result.now c.args.u c.index-as_slice-u-2.result c.as_slice-2.ensures (each_choice c.args.plan.now c.requires.plan c.args.u c.requires.there) c.index-as_slice-u-2.is)
    (part_at c.args.plan.now.timed c.as_slice-3.result.now c.args.u c.index-as_slice-u-3.result c.as_slice-3.ensures (each_timed c.args.plan.now c.requires.plan c.args.u c.requires.there) c.index-as_slice-u-3.is)
    c.in_ok-name.name c.in_ok-name.ensures c.args.sets.now c.args.progress c.in_ok-looked.looked c.in_ok-looked.ensures.looked
