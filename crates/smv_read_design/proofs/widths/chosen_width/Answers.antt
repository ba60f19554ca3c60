use Rattle.law_obligations.specs.Units.{units_of}
use Rattle.smv_chosen_table.proofs.TableLaws.{table-shown}
use Rattle.smv_read_design.proofs.widths.chosen_width.Goals as goal

pub cases_width-requires-clause-table : goal.cases_width-requires-clause-table
cases_width-requires-clause-table c =
    table-shown c.args.design.now c.args.units.now (units_of c.args.design.now) c.as_slice-picks.result.now c.args.choice.now.picks c.choose.new.table.items c.as_slice.result.now
    c.requires.units c.as_slice-picks.ensures c.as_slice.ensures.value c.choose.ensures
