use Rattle.std.proofs.Common.{◌≡◌, ◌++◌, drop, filter}
use Rattle.smv_outcome_lists.specs.Orders.{is_low}
use Rattle.smv_outcome_lists.proofs.keys.lower.Given as goal

abbrev pub invariant-loop-offer : goal.invariant-loop-offer
invariant-loop-offer g l = l.part.items ++ filter (λ o. is_low l.problem l.keys l.bound o.outcome) (drop l.offer-index l.offers) ≡ filter (λ o. is_low l.problem l.keys l.bound o.outcome) l.offers
