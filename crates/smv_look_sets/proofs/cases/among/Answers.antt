use Rattle.std.proofs.Common.{ℕ, length, None, Option, sym, subst}
use Rattle.smv_decide.specs.Leaves.{classes_in}
use Rattle.smv_decide.specs.Tasks.{case_in}
use Rattle.law_checked_proofs.specs.Cases.{cases_from}
use Rattle.smv_look_sets.specs.Sought.{IsSought}
use Rattle.smv_look_sets.proofs.SoughtLaws.{all_found}
use Rattle.smv_look_sets.proofs.cases.among.Goals as goal

pub returns-in_ok-tried-in-None : goal.returns-in_ok-tried-in-None
returns-in_ok-tried-in-None c =
    subst (λ (case : Option ℕ). IsSought c.args.budgets.nodes c.args.budgets.steps (cases_from c.args.unit.now (case_in c.args.task.now) 0 (classes_in c.args.cases.now)) case c.found.result) (sym c.in-None.is)
    (subst (IsSought c.args.budgets.nodes c.args.budgets.steps (cases_from c.args.unit.now (case_in c.args.task.now) 0 (classes_in c.args.cases.now)) None) (sym c.found.ensures)
    (all_found c.args.budgets.nodes c.args.budgets.steps (length (cases_from c.args.unit.now (case_in c.args.task.now) 0 (classes_in c.args.cases.now))) (cases_from c.args.unit.now (case_in c.args.task.now) 0 (classes_in c.args.cases.now)) c.in_ok-tried-in-None.tried.verdict c.in_ok-tried-in-None.tried.sets c.in_ok-tried-in-None.ensures))
