use Rattle.std.proofs.Common.{◌≡◌, ◌++◌, drop}
use Rattle.smv_eval.specs.Answers.{offered_values}
use Rattle.smv_eval.proofs.values.offered_values.Given as goal

abbrev pub invariant-loop-offer : goal.invariant-loop-offer
invariant-loop-offer l = l.values ++ offered_values l.problem l.list (drop l.offer-index l.offers) ≡ offered_values l.problem l.list l.offers
