-- The numbers of a span, one after the other.
use Rattle.std.proofs.Common.{◌≡◌, ◌<◌, ◌≤◌, ℕ, suc, ◌+◌, ◌-◌, List, [], ◌∷◌, arith, Bool, true, false, ◌||◌, Some, refl, sym, ap, ◌∙◌}
use Rattle.std.specs.List.{list_any}
use Rattle.smv_core.specs.Values.{number, numbers_from}
use Rattle.law_obligations.specs.Places.{named, World}
use Rattle.smv_spots.specs.declared.spots.Spot.TheVariants as spot
use Rattle.smv_spots.specs.Spots.{outcome_in}
use Rattle.smv_problem.specs.declared.problem.Problem.{Problem}
use Rattle.smv_problem_spots.specs.Worlds.{IsWorldOf}
use Rattle.smv_conditions.specs.Keep.{KeepsConditions}
use Rattle.smv_targets.specs.declared.targets.Target.{Target}
use Rattle.smv_targets.specs.declared.targets.Sense.{Sense}
use Rattle.smv_targets.specs.Targets.{Aim, IsTarget, IsTargetMade, given_at, meant}
use Rattle.smv_targets.proofs.AimLaws.{given_means, target_on}
use Rattle.smv_sides.specs.Sides.{IsOfTarget, numbers_mean}

-- what a loop over numbers keeps: with the numbers that are still to come, some number gives the value
pub record Numbering {S C : Type 0} (IsMade : S → C → Type 0) (holds : S → C → (ℕ → Bool) → Bool) (room : S → ℕ) (start s : S) (problem : Problem) (x : Target C) (sense : Sense) (rest all : List ℕ) (r : C) : Type 0 where
  pub keeps : KeepsConditions IsMade holds room start s
  pub made : IsMade s r
  pub is : (z : Aim) → IsWorldOf problem z.view.world → IsTarget holds start x z → (a : ℕ → Bool) → (holds s r a || numbers_mean sense rest z a) ≡ numbers_mean sense all z a

no_numbers : (low end : ℕ) → end ≤ low → numbers_from low (end - low) ≡ []
no_numbers low end h = let e : end - low ≡ 0 = omega arith in ap (numbers_from low) e

next_numbers : (low end : ℕ) → low < end → numbers_from low (end - low) ≡ low ∷ numbers_from (low + 1) (end - (low + 1))
next_numbers low end h = let e : end - low ≡ suc (end - (low + 1)) = omega arith in ap (numbers_from low) e

module _ {S C : Type 0} (IsMade : S → C → Type 0) (holds : S → C → (ℕ → Bool) → Bool) (room : S → ℕ) where
  pub numbers_begin : (s : S) (x : Target C) (sense : Sense) (all : List ℕ) (r : C) → ((a : ℕ → Bool) → holds s r a ≡ false) → (z : Aim) (a : ℕ → Bool) → (holds s r a || numbers_mean sense all z a) ≡ numbers_mean sense all z a
  numbers_begin s x sense all r none z a = ap (λ b. b || numbers_mean sense all z a) (none a)

  grouped : (b c d : Bool) → ((b || c) || d) ≡ (b || (c || d))
  grouped true c d = refl
  grouped false c d = refl

  pub numbers_go : (start s t : S) (problem : Problem) (x : Target C) (sense : Sense) (value end place : ℕ) (all : List ℕ) (r gives longer : C) → value < end → place ≡ value → KeepsConditions IsMade holds room start s → IsTargetMade (IsMade start) x →
      ((z : Aim) → IsWorldOf problem z.view.world → IsTarget holds start x z → (a : ℕ → Bool) → (holds s r a || numbers_mean sense (numbers_from value (end - value)) z a) ≡ numbers_mean sense all z a) →
      ((w : World) → IsWorldOf problem w → gives ≡ given_at w.classes x sense (outcome_in w.classes (Some (spot.Number place)))) → ((a : ℕ → Bool) → holds t longer a ≡ (holds s r a || holds s gives a)) →
      (z : Aim) → IsWorldOf problem z.view.world → IsTarget holds start x z → (a : ℕ → Bool) → (holds t longer a || numbers_mean sense (numbers_from (value + 1) (end - (value + 1))) z a) ≡ numbers_mean sense all z a
  unfolding numbers_mean
  numbers_go start s t problem x sense value end place all r gives longer l v keeps made before is whole z world target a =
      let test : ℕ → Bool = λ k. meant sense z.every (Some (named (number k))) (z.value a) in
      let rest : Bool = list_any test (numbers_from (value + 1) (end - (value + 1))) in
      ap (λ b. b || rest) (whole a)
      ∙ (grouped (holds s r a) (holds s gives a) rest
      ∙ (ap (λ b. holds s r a || (b || rest)) (ap (λ c. holds s c a) (is z.view.world world) ∙ (given_means holds s x z (target_on IsMade holds room start s x z keeps made target) a sense (Some (named (number place))) ∙ ap test v))
      ∙ (ap (λ l. holds s r a || list_any test l) (sym (next_numbers value end l)) ∙ before z world target a)))

  pub numbers_done : (start s : S) (problem : Problem) (x : Target C) (sense : Sense) (value end low : ℕ) (r : C) → end ≤ value →
      ((z : Aim) → IsWorldOf problem z.view.world → IsTarget holds start x z → (a : ℕ → Bool) → (holds s r a || numbers_mean sense (numbers_from value (end - value)) z a) ≡ numbers_mean sense (numbers_from low (end - low)) z a) →
      IsOfTarget holds start s problem x (numbers_mean sense (numbers_from low (end - low))) r
  unfolding IsOfTarget numbers_mean
  numbers_done start s problem x sense value end low r h is z world target a = last (holds s r a) ∙ (ap (λ l. holds s r a || list_any (λ k. meant sense z.every (Some (named (number k))) (z.value a)) l) (sym (no_numbers value end h)) ∙ is z world target a)
    where
      last : (b : Bool) → b ≡ (b || false)
      last true = refl
      last false = refl
