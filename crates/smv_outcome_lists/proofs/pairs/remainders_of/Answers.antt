use Rattle.std.proofs.Common.{◌||◌, ◌∙◌, ap}
use Rattle.smv_core.specs.Values.{modulo}
use Rattle.law_obligations.specs.Places.{valued, as_place}
use Rattle.smv_conditions.specs.Offers.{any_offer}
use Rattle.smv_outcome_lists.proofs.PairLaws.{no_offer}
use Rattle.smv_outcome_lists.proofs.pairs.remainders_of.Goals as goal

pub returns-clause-any : goal.returns-clause-any
returns-clause-any g c n p a = c.in_ok-remainders.ensures.adds n p a ∙ ap (λ b. b || any_offer n g.S.Conditions.holds c.args.s.now a (λ u. p (as_place (modulo (valued u) c.args.by))) c.args.us.now) (no_offer n _ _ a p _ c.new-out.ensures.items)
