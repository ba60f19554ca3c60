-- What comparisons of lists of outcomes may give.
use Rattle.std.specs.Prelude.{ℕ, List, Bool, ◌&&◌, ◌||◌}
use Rattle.std.specs.List.{list_any}
use Rattle.smv_core.specs.FlatMeaning.{Numbered}
use Rattle.smv_core.specs.Outcome.{is_true}
use Rattle.smv_core.specs.declared.tree.Op.{Op}
use Rattle.law_obligations.specs.Right.{is_false, is_neither}
use Rattle.law_obligations.specs.Places.{AbsOutcome, may_compare}
use Rattle.smv_spots.specs.declared.answers.Answers.{Answers}
use Rattle.smv_conditions.specs.declared.offers.Offer.{Offer}
use Rattle.law_obligations.specs.Mix.{Mix}
use Rattle.smv_conditions.specs.Offers.{any_offer}

-- the answers of one comparison more, under a condition
abbrev pub with_answers : Bool → Answers → Mix → Mix
with_answers when answers m = record { no = (when && answers.no) || m.no; yes = (when && answers.yes) || m.yes; neither = (when && answers.neither) || m.neither }

-- three conditions beside others, under a condition
abbrev pub guard_mix : Bool → Mix → Mix → Mix
guard_mix when y x = record { no = (when && y.no) || x.no; yes = (when && y.yes) || x.yes; neither = (when && y.neither) || x.neither }

module _ {S C : Type 0} (n : Numbered) (holds : S → C → (ℕ → Bool) → Bool) (s : S) (a : ℕ → Bool) where
  -- what an outcome may give against one of these
  unfoldable pub compare_each : Op → AbsOutcome → List (Offer C) → Mix
  compare_each op u vs = record { no = any_offer n holds s a (λ v. list_any is_false (may_compare op u v)) vs; yes = any_offer n holds s a (λ v. list_any is_true (may_compare op u v)) vs; neither = any_offer n holds s a (λ v. list_any is_neither (may_compare op u v)) vs }

  -- what one of these may give against one of those
  unfoldable pub compare_mix : Op → List (Offer C) → List (Offer C) → Mix
  compare_mix op us vs = record { no = any_offer n holds s a (λ u. any_offer n holds s a (λ v. list_any is_false (may_compare op u v)) vs) us; yes = any_offer n holds s a (λ u. any_offer n holds s a (λ v. list_any is_true (may_compare op u v)) vs) us; neither = any_offer n holds s a (λ u. any_offer n holds s a (λ v. list_any is_neither (may_compare op u v)) vs) us }
