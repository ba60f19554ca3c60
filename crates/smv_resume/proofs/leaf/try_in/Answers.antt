use Rattle.law_obligations.specs.Units.{units_of}
use Rattle.smv_chosen_table.proofs.TableLaws.{table-shown}
use Rattle.smv_resume.proofs.leaf.try_in.Goals as goal

pub try_leaf-requires-clause-task : goal.try_leaf-requires-clause-task
try_leaf-requires-clause-task c = record {
  units = c.requires.units;
  part = c.requires.part;
  table = table-shown c.args.design.now c.args.units.now (units_of c.args.design.now) c.as_slice-picks.result.now c.args.choice.now.picks c.choose.new.table.items c.as_slice.result.now
      c.requires.units c.as_slice-picks.ensures c.as_slice.ensures.value c.choose.ensures;
}
