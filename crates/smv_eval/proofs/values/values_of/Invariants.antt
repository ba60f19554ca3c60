use Rattle.std.proofs.Common.{◌≡◌, [], drop}
use Rattle.smv_eval.specs.Answers.{with_offers}
use Rattle.smv_eval.proofs.values.values_of.Given as goal

abbrev pub invariant-loop-offer : goal.invariant-loop-offer
invariant-loop-offer l = with_offers l.problem l.list l.values (drop l.offer-index l.offers) ≡ with_offers l.problem l.list [] l.offers
