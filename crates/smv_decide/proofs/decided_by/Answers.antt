use Rattle.std.proofs.Common.{sym, ap, subst}
use Rattle.smv_bits.specs.declared.Bits.TheVariants.{Near}
use Rattle.smv_decide.specs.declared.Decided.{Decided}
use Rattle.smv_decide.specs.Decisions.{IsDecided}
use Rattle.smv_decide.proofs.TryLaws.{decided_safe, decided_broken, decided_nodes, decided_steps}
use Rattle.smv_decide.proofs.decided_by.Goals as goal

pub returns-in-Safe-clause-decided : goal.returns-in-Safe-clause-decided
returns-in-Safe-clause-decided c = decided_safe c.args.problem c.args.budgets.nodes c.args.budgets.steps c.args.tried c.in-Safe.is c.requires.tried

pub returns-in-Broken-clause-decided : goal.returns-in-Broken-clause-decided
returns-in-Broken-clause-decided c = λ case e well.
    subst (IsDecided Near c.args.budgets.nodes c.args.budgets.steps case) (sym (ap (λ (d : Decided). d.decision) c.shown.ensures)) (decided_broken c.args.problem c.args.budgets.nodes c.args.budgets.steps c.args.tried c.in-Broken.path c.in-Broken.is c.requires.tried case e well)

pub returns-in-Broken-clause-shared : goal.returns-in-Broken-clause-shared
returns-in-Broken-clause-shared c = ap (λ (d : Decided). d.shared) c.shown.ensures

pub returns-in-OutOfNodes-clause-decided : goal.returns-in-OutOfNodes-clause-decided
returns-in-OutOfNodes-clause-decided c = decided_nodes c.args.problem c.args.budgets.nodes c.args.budgets.steps c.args.tried c.in-OutOfNodes.count c.in-OutOfNodes.is c.requires.tried

pub returns-in-OutOfSteps-clause-decided : goal.returns-in-OutOfSteps-clause-decided
returns-in-OutOfSteps-clause-decided c = decided_steps c.args.problem c.args.budgets.nodes c.args.budgets.steps c.args.tried c.in-OutOfSteps.is c.requires.tried
