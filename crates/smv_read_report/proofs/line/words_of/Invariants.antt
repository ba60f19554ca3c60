use Rattle.std.specs.Prelude.{◌≡◌, length}
use Rattle.smv_read_report.specs.Lines.{words_of}
use Rattle.smv_read_report.proofs.Led.{words_behind}
use Rattle.smv_read_report.proofs.line.words_of.Given as goal

abbrev pub invariant-loop-rest : goal.invariant-loop-rest
invariant-loop-rest l = words_behind l.words (words_of l.rest) ≡ words_of l.initial.rest

abbrev pub decreases-loop-rest : goal.decreases-loop-rest
decreases-loop-rest l = length l.rest
