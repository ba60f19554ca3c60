use Rattle.std.proofs.Common.{IfSome, subst}
use Rattle.smv_rings.specs.Lists.{lists_of}
use Rattle.smv_wires.specs.declared.relations.Wired.{Wired}
use Rattle.smv_problem.specs.WellFormed.{OfCases}
use Rattle.smv_trace.specs.Wired.{AreWired}
use Rattle.smv_decide.proofs.TryLaws.{parts_told}
use Rattle.smv_decide.proofs.near.try_wired.Goals as goal

pub returns : goal.returns
returns c =
    parts_told c.args.problem.now c.args.order.now c.in-Some.field-0.wires.items (lists_of c.wired_within.new.store c.in-Some.field-0.rel)
    (subst (λ o. IfSome o (λ (made : Wired). OfCases c.args.problem.now (AreWired c.args.order.now made.wires.items (lists_of c.wired_within.new.store made.rel)))) c.in-Some.is c.in_ok-made.ensures.lists)
    c.args.budgets.nodes c.args.budgets.steps c.in_ok-tried.tried c.in_ok-tried.ensures
