use Rattle.std.specs.Prelude.{◌≡◌, length}
use Rattle.smv_read_report.specs.Lines.{cells_of}
use Rattle.smv_read_report.proofs.Led.{cells_behind}
use Rattle.smv_read_report.proofs.line.cells_of.Given as goal

abbrev pub invariant-loop-rest : goal.invariant-loop-rest
invariant-loop-rest l = cells_behind l.elements l.values (cells_of l.rest) ≡ cells_of l.initial.rest

abbrev pub decreases-loop-rest : goal.decreases-loop-rest
decreases-loop-rest l = length l.rest
