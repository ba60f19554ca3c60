use Rattle.std.proofs.Common.{◌∙◌}
use Rattle.smv_search.proofs.Start.{rel_kept, lists_kept}
use Rattle.smv_decide.proofs.Deciding.{found_after}
use Rattle.smv_rings.specs.Lists.{lists_of}
use Rattle.smv_kept_cases.proofs.CaseLaws.{closed_live, closed_shut, few_vars, kept_where, open_where}
use Rattle.smv_kept_cases.proofs.cases.search_problem.Goals as goal

pub take-requires-clause-live : goal.take-requires-clause-live
take-requires-clause-live c = closed_live c.search.new.store c.in_ok-outcome.outcome c.closed_by.result c.in-Some.set c.closed_by.ensures c.in-Some.is c.in_ok-outcome.ensures.found

pub take-requires-clause-few : goal.take-requires-clause-few
take-requires-clause-few c = few_vars c.args.store.now c.search.new.store c.args.rel.now c.args.problem c.requires.problem c.requires.rel c.requires.lists c.search.ensures.keeps.vars

pub returns-in_ok-kept-in-Some-clause-searched : goal.returns-in_ok-kept-in-Some-clause-searched
returns-in_ok-kept-in-Some-clause-searched c = λ case e well.
    kept_where c.args.budgets.nodes c.args.budgets.steps c.args.store.now c.search.new.store c.args.rel.now c.args.place case c.in-Some.set c.in_ok-kept-in-Some.kept c.requires.rel (c.requires.lists case e well) c.search.ensures.keeps.vars
    (closed_shut c.search.new.store (lists_of c.args.store.now c.args.rel.now) c.args.budgets.nodes c.args.budgets.steps c.in_ok-outcome.outcome c.closed_by.result c.in-Some.set c.closed_by.ensures c.in-Some.is c.in_ok-outcome.ensures.verdict)
    c.in_ok-kept-in-Some.ensures.kept

pub tell-requires-clause-rel : goal.tell-requires-clause-rel
tell-requires-clause-rel c = rel_kept c.args.store.now c.search.new.store c.args.rel.now c.search.ensures.keeps c.requires.rel

pub tell-requires-clause-lists : goal.tell-requires-clause-lists
tell-requires-clause-lists c = λ case e well. lists_kept c.args.store.now c.search.new.store c.args.rel.now c.search.ensures.keeps ∙ c.requires.lists case e well

pub tell-requires-clause-found : goal.tell-requires-clause-found
tell-requires-clause-found c =
    found_after c.args.store.now c.search.new.store c.args.rel.now c.args.budgets.nodes c.args.budgets.steps c.in_ok-outcome.outcome c.search.ensures.keeps c.in_ok-outcome.ensures.verdict c.in_ok-outcome.ensures.false_case c.in_ok-outcome.ensures.found

pub returns-in-Some-told-clause-searched : goal.returns-in-Some-told-clause-searched
returns-in-Some-told-clause-searched c = λ case e well.
    open_where c.args.budgets.nodes c.args.budgets.steps c.args.place case c.in_ok-decided-in-None.decided.decision c.in_ok-told-in-None.told c.in-Some-told.verdict (c.in_ok-decided-in-None.ensures.decided case e well) c.in_ok-told-in-None.ensures c.in-Some-told.is
