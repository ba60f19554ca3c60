use Rattle.smv_search.proofs.Start.{rel_kept, lists_kept}
use Rattle.smv_decide.proofs.Deciding.{found_after}
use Rattle.std.proofs.Common.{◌∙◌}
use Rattle.smv_decide.proofs.over_declared.Goals as goal

pub tell-requires-clause-rel : goal.tell-requires-clause-rel
tell-requires-clause-rel c = rel_kept c.relations_in_room.new.store c.search.new.store c.in_ok-rel.rel c.search.ensures.keeps c.in_ok-rel.ensures.rel

pub tell-requires-clause-lists : goal.tell-requires-clause-lists
tell-requires-clause-lists c = λ case e well. lists_kept c.relations_in_room.new.store c.search.new.store c.in_ok-rel.rel c.search.ensures.keeps ∙ c.in_ok-rel.ensures.lists case e well

pub tell-requires-clause-found : goal.tell-requires-clause-found
tell-requires-clause-found c =
    found_after c.relations_in_room.new.store c.search.new.store c.in_ok-rel.rel c.args.budgets.nodes c.args.budgets.steps c.in_ok-outcome.outcome c.search.ensures.keeps c.in_ok-outcome.ensures.verdict c.in_ok-outcome.ensures.false_case c.in_ok-outcome.ensures.found
