-- Where less is kept in mind, less is asked, and less is to be kept in mind.
use Rattle.std.proofs.lemmas.Bool.{and_from, or_left, or_right, or_cases}
use Rattle.law_lists.proofs.Booleans.{left_of, right_of}
use Rattle.std.proofs.Common.{◌≡◌, ◌⊎◌, inl, inr, List, [], ◌∷◌, Bool, true, not, ◌&&◌, ◌||◌}
use Rattle.smv_core.specs.Outcome.{State, Scene, Bindings}
use Rattle.law_formulas.specs.Formulas.{Formula, now, next, when, weak}
use Rattle.law_formulas.specs.Steps.{HasMarks, AreBelow, goes_on, is_met, Asked, stepped}
use Rattle.law_formulas.specs.Laws.{LessIsAskedOfLess}

module _ (scene : Scene) (b : Bindings) (s : State) where
  asked-less : (f : Formula) (little here : Bool) (fewer marks : List Bool) → HasMarks f fewer → HasMarks f marks → (little ≡ true → here ≡ true) → AreBelow fewer marks →
      Asked scene b f here marks s → Asked scene b f little fewer s
  asked-less (now e) little here fewer marks has have h below asked = λ l. asked (h l)
  asked-less (next at f) little here [] marks has have h below asked = absurd has
  asked-less (next at f) little here (m ∷ fewer) [] has have h below asked = absurd have
  asked-less (next at f) little here (m ∷ fewer) (n ∷ marks) has have h below asked = asked-less f m n fewer marks has have below.0 below.1 asked
  asked-less (when c f) little here fewer marks has have h below asked =
      asked-less f (little && goes_on scene b c s) (here && goes_on scene b c s) fewer marks has have (λ l. and_from here (goes_on scene b c s) (h (left_of little (goes_on scene b c s) l)) (right_of little (goes_on scene b c s) l)) below asked
  asked-less (weak p q) little here [] marks has have h below asked = absurd has
  asked-less (weak p q) little here (w ∷ fewer) [] has have h below asked = absurd have
  asked-less (weak p q) little here (w ∷ fewer) (v ∷ marks) has have h below asked = λ l. asked (more (or_cases little w l))
    where
      more : (little ≡ true) ⊎ (w ≡ true) → here || v ≡ true
      more (inl l) = or_left here v (h l)
      more (inr l) = or_right here v (below.0 l)

  stepped-less : (f : Formula) (little here : Bool) (fewer marks : List Bool) → HasMarks f fewer → HasMarks f marks → (little ≡ true → here ≡ true) → AreBelow fewer marks →
      AreBelow (stepped scene b f little fewer s) (stepped scene b f here marks s)
  stepped-less (now e) little here fewer marks has have h below = tt
  stepped-less (next at f) little here [] marks has have h below = absurd has
  stepped-less (next at f) little here (m ∷ fewer) [] has have h below = absurd have
  stepped-less (next at f) little here (m ∷ fewer) (n ∷ marks) has have h below = (h, stepped-less f m n fewer marks has have below.0 below.1)
  stepped-less (when c f) little here fewer marks has have h below =
      stepped-less f (little && goes_on scene b c s) (here && goes_on scene b c s) fewer marks has have (λ l. and_from here (goes_on scene b c s) (h (left_of little (goes_on scene b c s) l)) (right_of little (goes_on scene b c s) l)) below
  stepped-less (weak p q) little here [] marks has have h below = absurd has
  stepped-less (weak p q) little here (w ∷ fewer) [] has have h below = absurd have
  stepped-less (weak p q) little here (w ∷ fewer) (v ∷ marks) has have h below =
      (λ l. and_from (here || v) (not (is_met scene b q s)) (more (or_cases little w (left_of (little || w) (not (is_met scene b q s)) l))) (right_of (little || w) (not (is_met scene b q s)) l), tt)
    where
      more : (little ≡ true) ⊎ (w ≡ true) → here || v ≡ true
      more (inl l) = or_left here v (h l)
      more (inr l) = or_right here v (below.0 l)

pub less : LessIsAskedOfLess
less scene b s f fewer marks has have below = (asked-less scene b s f true true fewer marks has have (λ l. l) below, stepped-less scene b s f true true fewer marks has have (λ l. l) below)
