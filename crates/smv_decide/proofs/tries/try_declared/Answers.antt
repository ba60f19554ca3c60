use Rattle.std.proofs.Common.{IfSome, refl, subst}
use Rattle.smv_rings.specs.Lists.{Lists, lists_of}
use Rattle.law_events.specs.Events.{IsFirstEvent}
use Rattle.law_reports.specs.CaseLists.{IsListsOf}
use Rattle.smv_problem.specs.WellFormed.{OfCases}
use Rattle.smv_decide.specs.Tries.{IsTried}
use Rattle.smv_decide.proofs.Deciding.{order_declared, wired_declared}
use Rattle.smv_decide.proofs.tries.try_declared.Goals as goal

pub search_over-requires-clause-order : goal.search_over-requires-clause-order
search_over-requires-clause-order c = order_declared c.args.problem.now c.args.declared.now c.requires.declared

pub search_over-requires-clause-lists : goal.search_over-requires-clause-lists
search_over-requires-clause-lists c =
    wired_declared c.args.problem.now (lists_of c.relations_within.new.store c.in-Some.rel) c.args.declared.now _ refl c.requires.declared
    (subst (λ o. IfSome o (λ rel. OfCases c.args.problem.now (λ k. IsListsOf k (lists_of c.relations_within.new.store rel)))) c.in-Some.is c.in_ok-rel.ensures.lists)

pub returns : goal.returns
returns c = λ case e well.
    subst (λ (l : Lists). IsTried (IsFirstEvent l c.args.budgets.nodes c.args.budgets.steps) case c.in_ok-tried.tried)
    (subst (λ o. IfSome o (λ rel. OfCases c.args.problem.now (λ k. IsListsOf k (lists_of c.relations_within.new.store rel)))) c.in-Some.is c.in_ok-rel.ensures.lists case e well)
    (c.in_ok-tried.ensures case e well)
