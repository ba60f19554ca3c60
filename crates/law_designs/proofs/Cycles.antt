-- Edges hold a cycle exactly where some of them each lead on to one of them.
use Rattle.std.proofs.Common.{◌≡◌, ℕ, zero, suc, ◌<◌, ◌≤◌, List, [], ◌∷◌, length, filter, Bool, true, false, ◌&&◌, ◌||◌, cond, refl, sym, ap, ◌∙◌, ◌⊎◌, inl, inr, arith}
use Rattle.std.specs.List.{list_any}
use Rattle.law_lists.proofs.Booleans.{clash}
use Rattle.law_designs.specs.Loops.{Edge, same_cell, leads_on, going_on, kept, are_some, hold_a_cycle}
use Rattle.law_designs.specs.LoopLaws.{IsCircular}

-- ---- what is left of a list

module _ {X : Type 0} where
  pub few : (p : X → Bool) (xs : List X) → length (filter p xs) ≤ length xs
  few p [] = omega arith
  few p (x ∷ xs) = at (p x) (few p xs)
    where
      at : (b : Bool) → length (filter p xs) ≤ length xs → length (cond b (x ∷ filter p xs) (filter p xs)) ≤ suc (length xs)
      at true l = omega arith
      at false l = omega arith

  -- it is shorter, or all of the list
  fewer_or_all : (p : X → Bool) (xs : List X) → (length (filter p xs) < length xs) ⊎ (filter p xs ≡ xs)
  fewer_or_all p [] = inr refl
  fewer_or_all p (x ∷ xs) = at (p x) (fewer_or_all p xs) (few p xs)
    where
      at : (b : Bool) → (length (filter p xs) < length xs) ⊎ (filter p xs ≡ xs) → length (filter p xs) ≤ length xs → (length (cond b (x ∷ filter p xs) (filter p xs)) < suc (length xs)) ⊎ (cond b (x ∷ filter p xs) (filter p xs) ≡ x ∷ xs)
      at true (inl l) m = inl (omega (arith, l))
      at true (inr e) m = inr (ap (λ ys. x ∷ ys) e)
      at false r m = inl (omega (arith, m))

  filter-none : (p q : X → Bool) (xs : List X) → list_any q xs ≡ false → list_any q (filter p xs) ≡ false
  filter-none p q [] e = refl
  filter-none p q (x ∷ xs) e = by_tests (p x) (q x) refl e (filter-none p q xs)
    where
      by_tests : (b c : Bool) → q x ≡ c → (c || list_any q xs) ≡ false → (list_any q xs ≡ false → list_any q (filter p xs) ≡ false) → list_any q (cond b (x ∷ filter p xs) (filter p xs)) ≡ false
      by_tests b true h e rest = absurd (cc (e))
      by_tests true false h e rest = ap (λ c. c || list_any q (filter p xs)) h ∙ rest e
      by_tests false false h e rest = rest e

  -- what some that are left pass, some of all pass
  any-all : (p q : X → Bool) (xs : List X) → list_any q (filter p xs) ≡ true → list_any q xs ≡ true
  any-all p q xs h = at (list_any q xs) refl
    where
      at : (b : Bool) → list_any q xs ≡ b → b ≡ true
      at true e = refl
      at false e = absurd (clash h (filter-none p q xs e))

  filter-every : (xs : List X) → filter (λ x. true) xs ≡ xs
  filter-every [] = refl
  filter-every (x ∷ xs) = ap (λ ys. x ∷ ys) (filter-every xs)

  filter-twice : (p q : X → Bool) (xs : List X) → filter q (filter p xs) ≡ filter (λ x. p x && q x) xs
  filter-twice p q [] = refl
  filter-twice p q (x ∷ xs) = at (p x) (filter-twice p q xs)
    where
      at : (b : Bool) → filter q (filter p xs) ≡ filter (λ y. p y && q y) xs → filter q (cond b (x ∷ filter p xs) (filter p xs)) ≡ cond (b && q x) (x ∷ filter (λ y. p y && q y) xs) (filter (λ y. p y && q y) xs)
      at true e = ap (λ ys. cond (q x) (x ∷ ys) ys) e
      at false e = e

  abbrev pub rest_of : List X → List X
  rest_of [] = []
  rest_of (x ∷ xs) = xs

  pub not_longer : (x : X) (ys zs : List X) → length ys ≤ length zs → ys ≡ x ∷ zs → ⊥
  not_longer x ys zs l e = let k = ap length e in absurd (omega (arith, l, k))

  -- where all chosen ones pass the one test, and with it the other, the other leaves all chosen ones
  chosen-left : (chosen p q : X → Bool) → ((x : X) → q x ≡ true → p x ≡ true) → (xs : List X) → filter q (filter chosen xs) ≡ filter chosen xs → filter chosen (filter p xs) ≡ filter chosen xs
  chosen-left chosen p q imp [] h = refl
  chosen-left chosen p q imp (x ∷ xs) h = at (chosen x) (p x) (q x) refl refl refl h (chosen-left chosen p q imp xs)
    where
      at : (b c d : Bool) → chosen x ≡ b → p x ≡ c → q x ≡ d → filter q (cond b (x ∷ filter chosen xs) (filter chosen xs)) ≡ cond b (x ∷ filter chosen xs) (filter chosen xs) →
          (filter q (filter chosen xs) ≡ filter chosen xs → filter chosen (filter p xs) ≡ filter chosen xs) → filter chosen (cond c (x ∷ filter p xs) (filter p xs)) ≡ cond b (x ∷ filter chosen xs) (filter chosen xs)
      at true true true e f g h more = ap (λ b. cond b (x ∷ filter chosen (filter p xs)) (filter chosen (filter p xs))) e ∙ ap (λ ys. x ∷ ys) (more (ap rest_of (sym (ap (λ b. cond b (x ∷ filter q (filter chosen xs)) (filter q (filter chosen xs))) g) ∙ h)))
      at true false true e f g h more = absurd (clash (imp x g) f)
      at true c false e f g h more = absurd (not_longer x (filter q (filter chosen xs)) (filter chosen xs) (few q (filter chosen xs)) (sym (ap (λ b. cond b (x ∷ filter q (filter chosen xs)) (filter q (filter chosen xs))) g) ∙ h))
      at false true d e f g h more = ap (λ b. cond b (x ∷ filter chosen (filter p xs)) (filter chosen (filter p xs))) e ∙ more h
      at false false d e f g h more = more h

-- ---- no cycle is missed

positive : (edges : List Edge) → 0 < length edges → are_some edges ≡ true
positive [] l = absurd (omega (arith, l))
positive (e ∷ edges) l = refl

chosen-kept : (n : ℕ) (chosen : Edge → Bool) (edges : List Edge) → going_on (filter chosen edges) ≡ filter chosen edges → filter chosen (kept n edges) ≡ filter chosen edges
chosen-kept zero chosen edges h = refl
chosen-kept (suc n) chosen edges h = chosen-kept n chosen (going_on edges) (ap going_on one ∙ h ∙ sym one) ∙ one
  where
    one : filter chosen (going_on edges) ≡ filter chosen edges
    one = chosen-left chosen (leads_on edges) (leads_on (filter chosen edges)) (λ e. any-all chosen (λ (other : Edge). same_cell e.1 other.0) edges) edges h

pub none_is_missed : (edges : List Edge) (chosen : Edge → Bool) → IsCircular edges chosen → hold_a_cycle edges ≡ true
none_is_missed edges chosen h = positive (kept (length edges) edges) (omega (arith, l, k, h.1))
  where
    l : length (filter chosen (kept (length edges) edges)) ≤ length (kept (length edges) edges)
    l = few chosen (kept (length edges) edges)

    k : length (filter chosen (kept (length edges) edges)) ≡ length (filter chosen edges)
    k = ap length (chosen-kept (length edges) chosen edges h.0)

-- ---- each is one

kept-chosen : (n : ℕ) (edges : List Edge) → (chosen : Edge → Bool) × (filter chosen edges ≡ kept n edges)
kept-chosen zero edges = ((λ e. true), filter-every edges)
kept-chosen (suc n) edges = let r = kept-chosen n (going_on edges) in ((λ e. leads_on edges e && r.0 e), sym (filter-twice (leads_on edges) r.0 edges) ∙ r.1)

stays : (n : ℕ) (edges : List Edge) → going_on edges ≡ edges → kept n edges ≡ edges
stays zero edges e = refl
stays (suc n) edges e = ap (kept n) e ∙ stays n edges e

settled : (n : ℕ) (edges : List Edge) → length edges ≤ n → going_on (kept n edges) ≡ kept n edges
settled zero [] l = refl
settled zero (e ∷ edges) l = absurd (omega (arith, l))
settled (suc n) edges l = elim (fewer_or_all (leads_on edges) edges) [
  | inl m ↦ settled n (going_on edges) (omega (arith, l, m))
  | inr e ↦ let k = ap (kept n) e ∙ stays n edges e in ap going_on k ∙ e ∙ sym k
]

some : (edges : List Edge) → are_some edges ≡ true → 0 < length edges
some [] e = absurd (cc (e))
some (edge ∷ edges) e = omega arith

pub each_is_one : (edges : List Edge) → hold_a_cycle edges ≡ true → (chosen : Edge → Bool) × IsCircular edges chosen
each_is_one edges h = (chosen, (ap going_on same ∙ settled (length edges) edges (omega arith) ∙ sym same, omega (arith, long, some (kept (length edges) edges) h)))
  where
    chosen : Edge → Bool
    chosen = (kept-chosen (length edges) edges).0

    same : filter chosen edges ≡ kept (length edges) edges
    same = (kept-chosen (length edges) edges).1

    long : length (filter chosen edges) ≡ length (kept (length edges) edges)
    long = ap length same
