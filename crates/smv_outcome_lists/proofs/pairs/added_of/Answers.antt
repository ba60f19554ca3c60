use Rattle.std.proofs.Common.{◌||◌, ◌∙◌, ap}
use Rattle.smv_core.specs.Values.{add}
use Rattle.law_obligations.specs.Places.{valued, as_place}
use Rattle.smv_conditions.specs.Offers.{any_offer}
use Rattle.smv_outcome_lists.proofs.PairLaws.{no_offer}
use Rattle.smv_outcome_lists.proofs.pairs.added_of.Goals as goal

pub returns-clause-any : goal.returns-clause-any
returns-clause-any g c n p a = c.in_ok-added_all.ensures.adds n p a ∙ ap (λ b. b || any_offer n g.S.Conditions.holds c.args.s.now a (λ u. any_offer n g.S.Conditions.holds c.args.s.now a (λ v. p (as_place (add c.args.minus (valued u) (valued v)))) c.args.vs.now) c.args.us.now) (no_offer n _ _ a p _ c.new-out.ensures.items)
