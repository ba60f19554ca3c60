use Rattle.std.proofs.Common.{rules}
use Rattle.std.proofs.lemmas.List.Sorted.{IsNonDecreasingBy-from_sort_by_key}
use Rattle.smv_loops.specs.declared.listed.Listed.{Listed}
use Rattle.smv_loops.proofs.listed.sorted.Goals as goal

pub returns-clause-up : goal.returns-clause-up
returns-clause-up c = IsNonDecreasingBy-from_sort_by_key (λ (x : Listed). x.rank) _ c.in_ok-sort_by_key.ensures.sorted (λ a r q k. search rules)
