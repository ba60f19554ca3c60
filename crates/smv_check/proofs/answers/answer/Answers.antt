use Rattle.std.proofs.Common.{subst}
use Rattle.law_obligations.specs.Units.{script_of}
use Rattle.law_checked_proofs.specs.Cases.{unit_cases}
use Rattle.smv_check.specs.Progress.{AreLooked}
use Rattle.smv_check.proofs.answers.answer.Goals as goal

pub returns-in-Some : goal.returns-in-Some
returns-in-Some c =
    c.at_end.ensures (unit_cases (script_of c.args.plan.now.design c.args.plan.now.leaves c.args.plan.now.choices))
    (subst (AreLooked (unit_cases (script_of c.args.plan.now.design c.args.plan.now.leaves c.args.plan.now.choices)) c.args.sets.now) c.in-Some.is c.in_ok-looked.ensures)

pub returns-in-None : goal.returns-in-None
returns-in-None c =
    subst (AreLooked (unit_cases (script_of c.args.plan.now.design c.args.plan.now.leaves c.args.plan.now.choices)) c.args.sets.now) c.in-None.is c.in_ok-looked.ensures
