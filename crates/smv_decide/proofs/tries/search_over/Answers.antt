use Rattle.std.proofs.Common.{subst}
use Rattle.smv_rings.specs.Lists.{Lists}
use Rattle.law_events.specs.Events.{IsFirstEvent}
use Rattle.smv_search.proofs.Start.{rel_kept, lists_kept}
use Rattle.smv_decide.specs.Tries.{IsTried}
use Rattle.smv_decide.proofs.Deciding.{found_after, wired_after}
use Rattle.smv_decide.proofs.tries.search_over.Goals as goal

pub found_over-requires-clause-rel : goal.found_over-requires-clause-rel
found_over-requires-clause-rel c = rel_kept c.args.store.now c.search.new.store c.args.rel.now c.search.ensures.keeps c.requires.rel

pub found_over-requires-clause-lists : goal.found_over-requires-clause-lists
found_over-requires-clause-lists c = wired_after c.args.store.now c.search.new.store c.args.rel.now c.args.problem.now c.args.order.now c.args.wires.now c.search.ensures.keeps c.requires.lists

pub found_over-requires-clause-found : goal.found_over-requires-clause-found
found_over-requires-clause-found c =
    found_after c.args.store.now c.search.new.store c.args.rel.now c.args.budgets.nodes c.args.budgets.steps c.in_ok-outcome.outcome c.search.ensures.keeps c.in_ok-outcome.ensures.verdict c.in_ok-outcome.ensures.false_case c.in_ok-outcome.ensures.found

pub returns : goal.returns
returns c = λ case e well.
    subst (λ (l : Lists). IsTried (IsFirstEvent l c.args.budgets.nodes c.args.budgets.steps) case c.in_ok-tried.tried) (lists_kept c.args.store.now c.search.new.store c.args.rel.now c.search.ensures.keeps) (c.in_ok-tried.ensures case e well)
