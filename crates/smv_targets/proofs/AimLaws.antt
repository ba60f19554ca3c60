-- What a target's conditions mean, and that they go on to mean it.
use Rattle.std.proofs.Common.{◌≡◌, ℕ, List, [], ◌∷◌, map, Bool, true, false, not, ◌&&◌, ◌||◌, Option, Some, None, refl, sym, ap, ◌∙◌, subst, if◌then◌else◌}
use Rattle.smv_core.specs.FlatMeaning.{Numbered}
use Rattle.law_obligations.specs.Places.{Place, named, rest, same_place, is_named, is_among, AbsOutcome}
use Rattle.law_obligations.specs.Right.{gives, gives_surely, is_outside}
use Rattle.law_obligations.proofs.Same.{same_place-is}
use Rattle.smv_spots.specs.Spots.{place_in}
use Rattle.smv_problem.specs.declared.problem.Problem.{Problem}
use Rattle.smv_conditions.specs.Keep.{KeepsConditions}
use Rattle.smv_cells.specs.declared.cells.Cell.{Cell}
use Rattle.smv_cells.specs.Cells.{AreCellsMade}
use Rattle.smv_cells.proofs.SeenLaws.{seen_on}
use Rattle.smv_targets.specs.declared.targets.At.{At}
use Rattle.smv_targets.specs.declared.targets.Target.{Target}
use Rattle.smv_targets.specs.declared.targets.Sense.{Sense}
use Rattle.smv_targets.specs.declared.targets.Sense.TheVariants.{May, Surely, Exactly, Inside, Outside}
use Rattle.smv_targets.specs.Targets.{Aim, IsTarget, IsAim, IsTargetMade, AreAtMade, at_place, within, beyond, within_or_beyond, given_at, meant}

abbrev is_there : {X : Type 0} → Option X → Bool
is_there None = false
is_there (Some x) = true

at_among : {C : Type 0} (n : Numbered) (ts : List (At C)) (p : Place) → is_among (map (λ (x : At C). place_in n x.spot) ts) p ≡ is_there (at_place n ts p)
at_among n [] p = refl
at_among n (t ∷ ts) p = at (same_place p (place_in n t.spot)) (at_among n ts p)
  where
    at : (b : Bool) → is_among (map (λ (x : At _). place_in n x.spot) ts) p ≡ is_there (at_place n ts p) → (b || is_among (map (λ (x : At _). place_in n x.spot) ts) p) ≡ is_there (if b then Some t.when else at_place n ts p)
    at true e = refl
    at false e = e

at_made : {C : Type 0} (IsMade : C → Type 0) (n : Numbered) (ts : List (At C)) (p : Place) (c : C) → AreAtMade IsMade ts → at_place n ts p ≡ Some c → IsMade c
at_made IsMade n [] p c m e = absurd (cc)
at_made IsMade n (t ∷ ts) p c m e = at (same_place p (place_in n t.spot)) (at_made IsMade n ts p c m.1) e
  where
    some_is : {X : Type 0} {x y : X} → Some x ≡ Some y → x ≡ y
    some_is e = cc

    at : (b : Bool) → (at_place n ts p ≡ Some c → IsMade c) → (if b then Some t.when else at_place n ts p) ≡ Some c → IsMade c
    at true goes e = subst IsMade (some_is e) m.0
    at false goes e = goes e

module _ {S C : Type 0} (holds : S → C → (ℕ → Bool) → Bool) (s : S) (t : Target C) (z : Aim) (h : IsTarget holds s t z) (a : ℕ → Bool) where
  beyond_means : (sense : Sense) (u : AbsOutcome) → is_outside z.every u ≡ true → gives z.every u (z.value a) ≡ true → gives_surely z.every u (z.value a) ≡ true → (meant Exactly z.every u (z.value a) ≡ false) → holds s (beyond t sense) a ≡ meant sense z.every u (z.value a)
  beyond_means May u o g k x = h.always a ∙ sym g
  beyond_means Surely u o g k x = h.always a ∙ sym k
  beyond_means Exactly u o g k x = h.never a ∙ sym x
  beyond_means Inside u o g k x = h.never a ∙ sym (ap not o)
  beyond_means Outside u o g k x = h.always a ∙ sym o

  within_means : (sense : Sense) (p : Place) (c : C) → is_among z.every p ≡ true → holds s c a ≡ same_place p (z.value a) → holds s (within t sense p c) a ≡ meant sense z.every (Some p) (z.value a)
  within_means May p c e k = k ∙ sym (ap (λ b. if b then same_place p (z.value a) else is_among z.every (z.value a)) e)
  within_means Surely (named v) c e k = k ∙ (at (same_place (named v) (z.value a)) ∙ sym (ap (λ b. if b then same_place (named v) (z.value a) && true else is_among z.every (z.value a)) e))
    where
      at : (b : Bool) → b ≡ (b && true)
      at true = refl
      at false = refl
  within_means Surely (rest v) c e k = h.never a ∙ (at (same_place (rest v) (z.value a)) ∙ sym (ap (λ b. if b then same_place (rest v) (z.value a) && false else is_among z.every (z.value a)) e))
    where
      at : (b : Bool) → false ≡ (b && false)
      at true = refl
      at false = refl
  within_means Exactly p c e k = k
  within_means Inside p c e k = h.always a ∙ sym (ap (λ b. not (not b)) e)
  within_means Outside p c e k = h.never a ∙ sym (ap not e)

  false_true : (b : Bool) → (b ≡ true → false ≡ true) → b ≡ false
  false_true true f = sym (f refl)
  false_true false f = refl

  out_means : (sense : Sense) (p : Place) → is_among z.every p ≡ false → holds s (beyond t sense) a ≡ meant sense z.every (Some p) (z.value a)
  out_means sense p e = beyond_means sense (Some p) (ap not e)
      (ap (λ b. if b then same_place p (z.value a) else is_among z.every (z.value a)) e ∙ h.of_type a)
      (ap (λ b. if b then same_place p (z.value a) && is_named p else is_among z.every (z.value a)) e ∙ h.of_type a)
      (false_true (same_place p (z.value a)) (λ same. sym e ∙ (ap (is_among z.every) (same_place-is p (z.value a) same) ∙ h.of_type a)))

  place_means : (sense : Sense) (p : Place) (o : Option C) → at_place z.view.world.classes t.table p ≡ o → holds s (within_or_beyond t sense p o) a ≡ meant sense z.every (Some p) (z.value a)
  place_means sense p None e = out_means sense p (ap (λ l. is_among l p) (sym h.every) ∙ (at_among z.view.world.classes t.table p ∙ ap is_there e))
  place_means sense p (Some c) e = within_means sense p c (ap (λ l. is_among l p) (sym h.every) ∙ (at_among z.view.world.classes t.table p ∙ ap is_there e)) (h.held p c e a)

  -- the condition of an outcome holds where the outcome gives the value
  pub given_means : (sense : Sense) (u : AbsOutcome) → holds s (given_at z.view.world.classes t sense u) a ≡ meant sense z.every u (z.value a)
  unfolding given_at
  given_means sense None = beyond_means sense None refl (h.of_type a) (h.of_type a) refl
  given_means sense (Some p) = place_means sense p (at_place z.view.world.classes t.table p) refl

module _ {S C : Type 0} (IsMade : S → C → Type 0) (holds : S → C → (ℕ → Bool) → Bool) (room : S → ℕ) where
  -- a target's element stays its element
  pub target_on : (s t : S) (x : Target C) (z : Aim) → KeepsConditions IsMade holds room s t → IsTargetMade (IsMade s) x → IsTarget holds s x z → IsTarget holds t x z
  target_on s t x z k m h = record {
    indexes = h.indexes;
    every = h.every;
    held = λ p c e a. k.same c (at_made (IsMade s) z.view.world.classes x.table p c m.table e) a ∙ h.held p c e a;
    always = λ a. k.same x.always m.always a ∙ h.always a;
    never = λ a. k.same x.never m.never a ∙ h.never a;
    of_type = h.of_type;
  }

  pub aim_on : (s t : S) (problem : Problem) (cells : List (Cell C)) (x : Target C) (z : Aim) → KeepsConditions IsMade holds room s t → AreCellsMade (IsMade s) cells → IsTargetMade (IsMade s) x →
      IsAim holds s problem cells x z → IsAim holds t problem cells x z
  aim_on s t problem cells x z k m l h = record { seen = seen_on IsMade holds room s t problem cells z.view k m h.seen; target = target_on s t x z k l h.target }
