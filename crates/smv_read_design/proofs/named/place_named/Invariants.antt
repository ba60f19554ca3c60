use Rattle.smv_read_design.specs.Named.{is_named}
use Rattle.smv_read_design.proofs.PassedLaws.{Passed}
use Rattle.smv_read_design.proofs.named.place_named.Given as goal

abbrev pub invariant-loop-place : goal.invariant-loop-place
invariant-loop-place l = Passed (is_named l.design l.name) l.units l.place
