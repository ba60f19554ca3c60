use Rattle.std.proofs.Common.{take}
use Rattle.law_kept_proofs.specs.Laws.{HaveFewLines}
use Rattle.smv_resume.proofs.have_few_lines.Given as goal

abbrev pub invariant-loop-set : goal.invariant-loop-set
invariant-loop-set l = HaveFewLines (take l.set-index l.sets)
