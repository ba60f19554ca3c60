-- From spots to places: the three facts of a set type, where each class has one value.
use Rattle.std.proofs.Common.{◌≡◌, ℕ, zero, suc, ◌+◌, ◌<◌, ◌≤◌, List, [], ◌∷◌, ◌++◌, map, Bool, true, false, refl, sym, ap, subst, ◌∙◌, ◌⊎◌, inl, inr, arith, nat_eq, Some}
use Rattle.std.proofs.lemmas.Bool.{cases_Bool}
use Rattle.law_lists.proofs.Numbers.{nat_eq-is}
use Rattle.law_lists.proofs.Booleans.{clash as true_false, same_tests}
use Rattle.smv_core.specs.Values.{Value, numbers_from, same, below}
use Rattle.law_obligations.specs.Sets.{Has, first, later}
use Rattle.law_obligations.specs.Places.{Place, named, rest, equal_places, below_places}
use Rattle.law_obligations.specs.Pictures.{Spot, class, other, at_spot}
use Rattle.law_obligations.proofs.Members.{Has-left, Has-right, Has-cases, Has-map, Has-from_map}
use Rattle.law_obligations.proofs.Same.{nat_eq-itself}

pub Has-numbers : (low n k : ℕ) → low ≤ k → k < low + n → Has (numbers_from low n) k
Has-numbers low zero k a b = absurd (omega arith)
Has-numbers low (suc n) k a b = elim (at low k a) [ inl e ↦ subst (Has (low ∷ numbers_from (low + 1) n)) e first | inr less ↦ later (Has-numbers (low + 1) n k less (omega arith)) ]
  where
    at : (low k : ℕ) → low ≤ k → (low ≡ k) ⊎ (low + 1 ≤ k)
    at low k a = grind arith

pub numbers-Has : (low n k : ℕ) → Has (numbers_from low n) k → (low ≤ k) × (k < low + n)
numbers-Has low zero k h = elim h [ ]
numbers-Has low (suc n) _ first = (omega arith, omega arith)
numbers-Has low (suc n) k (later h) = let r = numbers-Has (low + 1) n k h in (omega arith, omega arith)

pub nat_eq-not : (k l : ℕ) → (k ≡ l → ⊥) → nat_eq k l ≡ false
nat_eq-not k l n = elim (cases_Bool (nat_eq k l)) [ inl e ↦ absurd (n (nat_eq-is k l e)) | inr e ↦ e ]

class_other : {c g : ℕ} → class c ≡ other g → ⊥
class_other e = cc

class_is : (c d : ℕ) → class c ≡ class d → c ≡ d
class_is c d e = cc

other_is : (c d : ℕ) → other c ≡ other d → c ≡ d
other_is c d e = cc

-- where the values below the size lie, among so many classes and these rests
pub record AreSpotted (size classes : ℕ) (rests : List ℕ) (spot : ℕ → Spot) : Type 0 where
  pub somewhere : (k : ℕ) → k < size → Has (map class (numbers_from 0 classes) ++ map other rests) (spot k)
  pub has_value : (c : ℕ) → c < classes → (k : ℕ) × (k < size) × (spot k ≡ class c)
  pub has_one : (k l c : ℕ) → spot k ≡ class c → spot l ≡ class c → k ≡ l

module _ (make : ℕ → Value) (same_make : (k l : ℕ) → same (make k) (make l) ≡ nat_eq k l)
    (place : Value → Place) (spot : ℕ → Spot) (placed_make : (k : ℕ) → place (make k) ≡ at_spot make (spot k))
    (size classes : ℕ) (rests : List ℕ) (facts : AreSpotted size classes rests spot) where
  make_is : (k l : ℕ) → make k ≡ make l → k ≡ l
  make_is k l e = nat_eq-is k l (sym (same_make k l) ∙ (ap (same (make k)) (sym e) ∙ (same_make k k ∙ nat_eq-itself k)))

  abbrev Values : Value → Type 0
  Values v = Has (map make (numbers_from 0 size)) v

  -- the number of a value
  number_of : (v : Value) → Values v → (k : ℕ) × (k < size) × (v ≡ make k)
  number_of v h = let r = Has-from_map make (numbers_from 0 size) h in let b = numbers-Has 0 size r.0 r.1 in (r.0, omega (arith, b), r.2)

  pub is_somewhere : (v : Value) → Values v → Has (map named (map make (numbers_from 0 classes)) ++ map (λ g. rest (make g)) rests) (place v)
  is_somewhere v h = let r = number_of v h in
      subst (Has (map named (map make (numbers_from 0 classes)) ++ map (λ g. rest (make g)) rests)) (sym (ap place r.2 ∙ placed_make r.0))
      (elim (Has-cases (map class (numbers_from 0 classes)) (map other rests) (facts.somewhere r.0 r.1)) [
        | inl l ↦ let c = Has-from_map class (numbers_from 0 classes) l in
            rw c.2 (Has-left (map (λ g. rest (make g)) rests) (Has-map named (Has-map make c.1)))
        | inr l ↦ let g = Has-from_map other rests l in
            rw g.2 (Has-right (map named (map make (numbers_from 0 classes))) (Has-map (λ g. rest (make g)) g.1))
      ])

  pub class_has_value : (q : Place) → Has (map named (map make (numbers_from 0 classes))) q → (v : Value) × Values v × (place v ≡ q)
  class_has_value q h =
      let r = Has-from_map named (map make (numbers_from 0 classes)) h in
      let c = Has-from_map make (numbers_from 0 classes) r.1 in
      let b = numbers-Has 0 classes c.0 c.1 in
      let k = facts.has_value c.0 (omega (arith, b)) in (
        make k.0,
        Has-map make (Has-numbers 0 size k.0 (omega arith) (let l = k.1 in omega (arith, l))),
        placed_make k.0 ∙ (ap (at_spot make) k.2 ∙ (ap named (sym c.2) ∙ sym r.2)),
      )

  one_value : (k l : ℕ) (s t : Spot) → spot k ≡ s → spot l ≡ t → Has (map named (map make (numbers_from 0 classes))) (at_spot make s) → at_spot make s ≡ at_spot make t → k ≡ l
  one_value k l (class c) (class d) p q h e = facts.has_one k l c p (q ∙ ap class (sym (make_is c d (inner e))))
    where
      inner : {u v : Value} → named u ≡ named v → u ≡ v
      inner e = cc
  one_value k l (class c) (other d) p q h e = absurd (clash e)
    where
      clash : {u v : Value} → named u ≡ rest v → ⊥
      clash e = cc
  one_value k l (other c) t p q h e = let r = Has-from_map named (map make (numbers_from 0 classes)) h in absurd (clash r.2)
    where
      clash : {u v : Value} → rest u ≡ named v → ⊥
      clash e = cc

  pub class_has_one : (u v : Value) → Values u → Values v → Has (map named (map make (numbers_from 0 classes))) (place u) → place u ≡ place v → u ≡ v
  class_has_one u v hu hv h e =
      let k = number_of u hu in let l = number_of v hv in
      let pu = ap place k.2 ∙ placed_make k.0 in
      let pv = ap place l.2 ∙ placed_make l.0 in
      k.2 ∙ (ap make (one_value k.0 l.0 (spot k.0) (spot l.0) refl refl (subst (Has (map named (map make (numbers_from 0 classes)))) pu h) (sym pu ∙ (e ∙ pv))) ∙ sym l.2)

  any_answer : (b : Bool) → Has (Some true ∷ Some false ∷ []) (Some b)
  any_answer true = first
  any_answer false = later first

  equal_at : (k l : ℕ) (s t : Spot) → spot k ≡ s → spot l ≡ t → Has (equal_places (at_spot make s) (at_spot make t)) (Some (nat_eq k l))
  equal_at k l (class c) (class d) p q =
      subst (λ b. Has (Some b ∷ []) (Some (nat_eq k l)))
      (same_tests (nat_eq k l) (nat_eq c d)
      (λ e. subst (λ z. nat_eq c z ≡ true) (class_is c d (sym p ∙ (ap spot (nat_eq-is k l e) ∙ q))) (nat_eq-itself c))
      (λ e. subst (λ z. nat_eq k z ≡ true) (facts.has_one k l c p (q ∙ ap class (sym (nat_eq-is c d e)))) (nat_eq-itself k))
      ∙ sym (same_make c d))
      first
  equal_at k l (class c) (other d) p q = subst (λ b. Has (Some false ∷ []) (Some b)) (sym (nat_eq-not k l (λ e. class_other (sym p ∙ (ap spot e ∙ q))))) first
  equal_at k l (other c) (class d) p q = subst (λ b. Has (Some false ∷ []) (Some b)) (sym (nat_eq-not k l (λ e. class_other (sym q ∙ (ap spot (sym e) ∙ p))))) first
  equal_at k l (other c) (other d) p q = rw (same_make c d) (elim (cases_Bool (nat_eq c d)) [
    | inl e ↦ rw e (any_answer (nat_eq k l))
    | inr e ↦ rw e (subst (λ b. Has (Some false ∷ []) (Some b))
        (sym (nat_eq-not k l (λ i. true_false (subst (λ z. nat_eq c z ≡ true) (other_is c d (sym p ∙ (ap spot i ∙ q))) (nat_eq-itself c)) e))) first)
  ])

  pub equality : (u v : Value) → Values u → Values v → Has (equal_places (place u) (place v)) (Some (same u v))
  equality u v hu hv =
      let k = number_of u hu in let l = number_of v hv in
      rw (k.2, l.2) (rw (placed_make k.0, placed_make l.0, same_make k.0 l.0) (equal_at k.0 l.0 (spot k.0) (spot l.0) refl refl))

  pub order : ((k l : ℕ) → k < size → l < size → Has (below_places (at_spot make (spot k)) (at_spot make (spot l))) (below (Some (make k)) (Some (make l)))) →
      (u v : Value) → Values u → Values v → Has (below_places (place u) (place v)) (below (Some u) (Some v))
  order h u v hu hv =
      let k = number_of u hu in let l = number_of v hv in
      rw (k.2, l.2) (rw (placed_make k.0, placed_make l.0) (h k.0 l.0 k.1 l.1))
