use Rattle.std.proofs.Common.{◌≡◌}
use Rattle.smv_chosen_table.specs.Tables.{AreBaseDefs}
use Rattle.smv_mentions.specs.FirstFault.{first_of}
use Rattle.smv_first_fault.specs.Firsts.{earlier_of}
use Rattle.smv_read_design.specs.Widths.{faults_of_widths}
use Rattle.smv_read_design.proofs.FirstLaws.{leaves_from}
use Rattle.smv_read_design.proofs.widths.width_fault.Given as goal

abbrev pub invariant-loop-place : goal.invariant-loop-place
invariant-loop-place l = record {
  fault : earlier_of l.found (leaves_from l.design l.leaves l.choices l.place) ≡ first_of (faults_of_widths l.design l.leaves l.choices);
  table : AreBaseDefs l.design l.table.items;
}
