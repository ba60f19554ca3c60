use Rattle.std.proofs.Common.{sym, subst}
use Rattle.std.specs.Prelude.{IfOk}
use Rattle.smv_bits.specs.declared.Bits.{Bits}
use Rattle.smv_problem.specs.WellFormed.{OfCases}
use Rattle.smv_decide.specs.declared.Decided.{Decided}
use Rattle.smv_decide.specs.Decisions.{IsDecided}
use Rattle.smv_decide.proofs.decide_problem.Goals as goal

pub returns-in-Near-clause-decided : goal.returns-in-Near-clause-decided
returns-in-Near-clause-decided c =
    subst (λ (bits : Bits). IfOk c.over_near.result (λ (decided : Decided). OfCases c.args.problem (λ case. IsDecided bits c.args.budgets.nodes c.args.budgets.steps case decided.decision))) (sym c.in-Near.is) c.over_near.ensures.decided

pub returns-in-Declared-clause-decided : goal.returns-in-Declared-clause-decided
returns-in-Declared-clause-decided c =
    subst (λ (bits : Bits). IfOk c.over_declared.result (λ (decided : Decided). OfCases c.args.problem (λ case. IsDecided bits c.args.budgets.nodes c.args.budgets.steps case decided.decision))) (sym c.in-Declared.is) c.over_declared.ensures.decided
