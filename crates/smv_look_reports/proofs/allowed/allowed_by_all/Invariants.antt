use Rattle.law_valid_texts.specs.Faultless.{script_of_plan}
use Rattle.smv_look_reports.proofs.AllowedLaws.{AreAllowedSoFar}
use Rattle.smv_look_reports.proofs.allowed.allowed_by_all.Given as goal

abbrev pub invariant-loop-u : goal.invariant-loop-u
invariant-loop-u l = AreAllowedSoFar (script_of_plan l.plan) l.results l.u l.allowed
