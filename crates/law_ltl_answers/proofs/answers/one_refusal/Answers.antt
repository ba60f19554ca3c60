use Rattle.law_ltl_answers.proofs.Refusals.{not-both, one-refusal}
use Rattle.law_ltl_answers.proofs.answers.one_refusal.Goals as goal

pub returns-clause-not_both : goal.returns-clause-not_both
returns-clause-not_both c = not-both

pub returns-clause-one : goal.returns-clause-one
returns-clause-one c = one-refusal
