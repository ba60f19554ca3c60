use Rattle.std.proofs.Common.{subst}
use Rattle.law_kept_proofs.specs.Laws.{HaveFewLines}
use Rattle.smv_resume.proofs.proof_of.Goals as goal

pub returns-clause-few : goal.returns-clause-few
returns-clause-few c = subst HaveFewLines c.as_slice.ensures (c.have_few_lines.ensures.0 c.if-not-have_few_lines.false)
