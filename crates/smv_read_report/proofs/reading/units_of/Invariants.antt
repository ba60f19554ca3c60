use Rattle.std.specs.Prelude.{◌≡◌, ◌+◌, length}
use Rattle.smv_read_report.specs.Reports.{nothing_read, read_from}
use Rattle.smv_read_report.proofs.reading.units_of.Given as goal

abbrev pub invariant-loop-rest : goal.invariant-loop-rest
invariant-loop-rest l = record {
  same : read_from l.number l.reading l.rest ≡ read_from 1 nothing_read l.lines;
  count : l.number + length l.rest ≡ 1 + length l.lines;
}

abbrev pub decreases-loop-rest : goal.decreases-loop-rest
decreases-loop-rest l = length l.rest
