-- The first of some places, where what was looked at before is passed over.
use Rattle.std.proofs.Common.{◌≡◌, ℕ, Bool, true, false, cond, if◌then◌else◌, refl, ap, sym, ◌∙◌, Option, Some, None, nat_eq, arith}
use Rattle.law_lists.proofs.Numbers.{nat_eq-is}
use Rattle.smv_mentions.specs.Scopes.{first_of_places}
use Rattle.smv_first_fault.proofs.LeastLaws.{first-none, first-assoc}
use Rattle.smv_references.proofs.AgainLaws.{first-comm}

twice : (a : Option ℕ) → first_of_places a a ≡ a
twice None = refl
twice (Some x) = ap Some (omega arith)

module _ (place_of : ℕ → Option ℕ) (found place new : Option ℕ) (unit : ℕ) (was : ℕ → Bool) (at : place ≡ (if was unit then None else place_of unit)) (is : new ≡ first_of_places found place)
    (known : (u : ℕ) → was u ≡ true → first_of_places found (place_of u) ≡ found) where
  -- passed over or not, it is the first of what was found and the place
  pub as_looked : new ≡ first_of_places found (place_of unit)
  as_looked = is ∙ by (was unit) refl
    where
      by : (b : Bool) → was unit ≡ b → first_of_places found place ≡ first_of_places found (place_of unit)
      by true w = ap (first_of_places found) (at ∙ ap (λ b. if b then None else place_of unit) w) ∙ (first-none found ∙ sym (known unit w))
      by false w = ap (first_of_places found) (at ∙ ap (λ b. if b then None else place_of unit) w)

  -- so none that was looked at has an earlier place
  pub known_more : (now : ℕ → Bool) → ((u : ℕ) → now u ≡ cond (nat_eq unit u) true (was u)) → (u : ℕ) → now u ≡ true → first_of_places new (place_of u) ≡ new
  known_more now noted u n = by (nat_eq unit u) refl (sym (noted u) ∙ n)
    where
      by : (b : Bool) → nat_eq unit u ≡ b → cond b true (was u) ≡ true → first_of_places new (place_of u) ≡ new
      by true e w = ap (λ a. first_of_places a (place_of u)) as_looked ∙ (first-assoc found (place_of unit) (place_of u)
          ∙ (ap (first_of_places found) (ap (λ v. first_of_places (place_of v) (place_of u)) (nat_eq-is unit u e) ∙ twice (place_of u)) ∙ (ap (λ v. first_of_places found (place_of v)) (sym (nat_eq-is unit u e)) ∙ sym as_looked)))
      by false e w = ap (λ a. first_of_places a (place_of u)) as_looked ∙ (first-assoc found (place_of unit) (place_of u)
          ∙ (ap (first_of_places found) (first-comm (place_of unit) (place_of u)) ∙ (sym (first-assoc found (place_of u) (place_of unit)) ∙ (ap (λ a. first_of_places a (place_of unit)) (known u w) ∙ sym as_looked))))
