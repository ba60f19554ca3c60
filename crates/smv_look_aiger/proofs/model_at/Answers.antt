use Rattle.std.proofs.Common.{◌∙◌, ◌<◌, Bor, List, Option, length, subst, sym}
use Rattle.smv_core.specs.declared.flat.Def.{Def}
use Rattle.smv_core.specs.declared.flat.Pick.{Pick}
use Rattle.smv_core.specs.declared.flat.Timed.{Timed}
use Rattle.smv_core.specs.declared.flat.Unit.{Unit}
use Rattle.law_problems.specs.Parts.{outlined}
use Rattle.smv_chosen_table.specs.Tables.{IsTable}
use Rattle.smv_plan_reports.proofs.PlanLaws.{each_choice, each_leaf, each_timed, part_at}
use Rattle.smv_look_aiger.proofs.model_at.Goals as goal

pub bounds-as_slice-u-3 : goal.bounds-as_slice-u-3
bounds-as_slice-u-3 c = subst (λ (xs : List Timed). c.args.u < length xs) (sym c.as_slice-3.ensures) (each_timed c.args.plan.now c.requires.plan c.args.u c.requires.there)

pub model_of-requires-clause-task : goal.model_of-requires-clause-task
model_of-requires-clause-task c = record {
  units = c.as_slice-units.ensures ∙ c.requires.plan.units;
  part =
      c.requires.plan.parts c.args.u c.index-as_slice-u.result c.index-as_slice-u-2.result
      (part_at c.args.plan.now.leaves c.as_slice.result.now c.args.u c.index-as_slice-u.result c.as_slice.ensures (each_leaf c.args.plan.now c.requires.plan c.args.u c.requires.there) c.index-as_slice-u.is)
      (part_at c.args.plan.now.choices c.as_slice-2.result.now c.args.u c.index-as_slice-u-2.result c.as_slice-2.ensures (each_choice c.args.plan.now c.requires.plan c.args.u c.requires.there) c.index-as_slice-u-2.is);
  table =
      subst (λ (table : List (Option (Bor Def))). IsTable (outlined c.args.plan.now.design) c.index-as_slice-u-2.result.picks table) (sym c.as_slice-5.ensures.value)
      (subst (λ (picks : List Pick). IsTable (outlined c.args.plan.now.design) picks c.in_ok-table.table.items) c.as_slice-4.ensures
      (subst (λ (units : List Unit). IsTable (record { design = c.args.plan.now.design; units = units }) c.as_slice-4.result.now c.in_ok-table.table.items) (c.as_slice-units.ensures ∙ c.requires.plan.units) c.in_ok-table.ensures));
}

pub model_of-requires-clause-room : goal.model_of-requires-clause-room
model_of-requires-clause-room c =
    c.requires.plan.room c.args.u c.index-as_slice-u.result c.index-as_slice-u-2.result
    (part_at c.args.plan.now.leaves c.as_slice.result.now c.args.u c.index-as_slice-u.result c.as_slice.ensures (each_leaf c.args.plan.now c.requires.plan c.args.u c.requires.there) c.index-as_slice-u.is)
    (part_at c.args.plan.now.choices c.as_slice-2.result.now c.args.u c.index-as_slice-u-2.result c.as_slice-2.ensures (each_choice c.args.plan.now c.requires.plan c.args.u c.requires.there) c.index-as_slice-u-2.is)

pub returns : goal.returns
returns c = record {
  leaf = c.index-as_slice-u.result;
  choice = c.index-as_slice-u-2.result;
  timed = c.index-as_slice-u-3.result;
  has_leaf = part_at c.args.plan.now.leaves c.as_slice.result.now c.args.u c.index-as_slice-u.result c.as_slice.ensures (each_leaf c.args.plan.now c.requires.plan c.args.u c.requires.there) c.index-as_slice-u.is;
  has_choice = part_at c.args.plan.now.choices c.as_slice-2.result.now c.args.u c.index-as_slice-u-2.result c.as_slice-2.ensures (each_choice c.args.plan.now c.requires.plan c.args.u c.requires.there) c.index-as_slice-u-2.is;
  has_timed = part_at c.args.plan.now.timed c.as_slice-3.result.now c.args.u c.index-as_slice-u-3.result c.as_slice-3.ensures (each_timed c.args.plan.now c.requires.plan c.args.u c.requires.there) c.index-as_slice-u-3.is;
  is_model = c.in_ok-model.ensures;
}
