-- How long lists of different numbers are.
use Rattle.std.proofs.Common.{◌≡◌, ℕ, zero, suc, ◌+◌, ◌<◌, ◌≤◌, List, [], ◌∷◌, ◌++◌, length, Bool, true, false, refl, sym, ap, subst, ◌⊎◌, inl, inr, arith, nat_eq, Option, Some, None, option_map, append_assoc}
use Rattle.std.proofs.lemmas.Bool.{cases_Bool}
use Rattle.law_lists.proofs.Numbers.{nat_eq-is}
use Rattle.smv_core.specs.Values.{numbers_from}
use Rattle.law_obligations.specs.Sets.{Has, first, later}
use Rattle.law_obligations.specs.Placings.{place_in, AreDistinct, AreBelow}
use Rattle.law_obligations.proofs.Same.{nat_eq-itself}
use Rattle.law_obligations.proofs.Spots.{Has-numbers, numbers-Has}
use Rattle.law_obligations.proofs.CasesCover.{none_of_either, longer_distinct, stays, at_end, below_longer, nil_right}

-- a list without one of its members
without : {xs : List ℕ} {x : ℕ} → Has xs x → List ℕ
without (first {xs = xs}) = xs
without (later {y = y} h) = y ∷ without h

length-without : {xs : List ℕ} {x : ℕ} (h : Has xs x) → length xs ≡ suc (length (without h))
unfolding without
length-without first = refl
length-without (later h) = ap suc (length-without h)

Has-without : {xs : List ℕ} {x z : ℕ} (h : Has xs x) → Has xs z → (z ≡ x → ⊥) → Has (without h) z
unfolding without
Has-without first first n = absurd (n refl)
Has-without first (later k) n = k
Has-without (later h) first n = first
Has-without (later h) (later k) n = later (Has-without h k n)

-- what is not found is not there
pub missing : (v : ℕ) (xs : List ℕ) → place_in v xs ≡ None → Has xs v → ⊥
missing v [] e h = elim h [ ]
missing v (x ∷ xs) e first = absurd (clash (nat_eq-itself v) (none_of_either (nat_eq v v) (place_in v xs) e).0)
  where
    clash : {b : Bool} → b ≡ true → b ≡ false → ⊥
    clash p q = cc
missing v (x ∷ xs) e (later h) = missing v xs (none_of_either (nat_eq v x) (place_in v xs) e).1 h

pub not_found : (v : ℕ) (xs : List ℕ) → (Has xs v → ⊥) → place_in v xs ≡ None
not_found v [] n = refl
not_found v (x ∷ xs) n = elim (cases_Bool (nat_eq v x)) [
  | inl e ↦ absurd (n (subst (Has (x ∷ xs)) (sym (nat_eq-is v x e)) first))
  | inr e ↦ rw e (ap (option_map (λ c. suc c)) (not_found v xs (λ h. n (later h))))
]

pub is_found : (v : ℕ) (xs : List ℕ) → (place_in v xs ≡ None → ⊥) → Has xs v
is_found v [] n = absurd (n refl)
is_found v (x ∷ xs) n = elim (cases_Bool (nat_eq v x)) [
  | inl e ↦ subst (Has (x ∷ xs)) (sym (nat_eq-is v x e)) first
  | inr e ↦ later (is_found v xs (λ p. n (rw e (ap (option_map (λ c. suc c)) p))))
]

-- different numbers are at most as many as those among which they are
length-within : (xs ys : List ℕ) → AreDistinct xs → ((x : ℕ) → Has xs x → Has ys x) → length xs ≤ length ys
length-within [] ys d h = omega arith
length-within (x ∷ xs) ys d h =
    let here = h x first in
    let fewer = length-within xs (without here) d.1 (λ z k. Has-without here (h z (later k)) (λ e. missing x xs d.0 (subst (Has xs) e k))) in
    let whole = length-without here in
    omega (arith, fewer, whole)

pub below_each : (size : ℕ) (xs : List ℕ) (x : ℕ) → AreBelow size xs → Has xs x → x < size
below_each size [] x b h = elim h [ ]
below_each size (x ∷ xs) _ b first = b.0
below_each size (x ∷ xs) z b (later h) = below_each size xs z b.1 h

pub length-numbers : (low n : ℕ) → length (numbers_from low n) ≡ n
length-numbers low zero = refl
length-numbers low (suc n) = ap suc (length-numbers (low + 1) n)

-- different numbers below a size are at most so many
pub at_most_size : (size : ℕ) (xs : List ℕ) → AreDistinct xs → AreBelow size xs → length xs ≤ size
at_most_size size xs d b = subst (λ m. length xs ≤ m) (length-numbers 0 size)
    (length-within xs (numbers_from 0 size) d (λ x h. Has-numbers 0 size x (omega arith) (let l = below_each size xs x b h in omega (arith, l))))

-- where no fewer than all are there, none is missing
pub all_there : (size : ℕ) (xs : List ℕ) → AreDistinct xs → AreBelow size xs → size ≤ length xs → (k : ℕ) → k < size → place_in k xs ≡ None → ⊥
all_there size xs d b l k h e = let r = at_most_size size (k ∷ xs) (e, d) (h, b) in omega (arith, r, l)

numbers_distinct : (low n : ℕ) → AreDistinct (numbers_from low n)
numbers_distinct low zero = tt
numbers_distinct low (suc n) = (not_found low (numbers_from (low + 1) n) (λ h. let r = numbers-Has (low + 1) n low h in let l = r.0 in omega (arith, l)), numbers_distinct (low + 1) n)

-- where all are there, they are so many
pub no_fewer : (size : ℕ) (xs : List ℕ) → ((k : ℕ) → k < size → place_in k xs ≡ None → ⊥) → size ≤ length xs
no_fewer size xs all = subst (λ m. m ≤ length xs) (length-numbers 0 size)
    (length-within (numbers_from 0 size) xs (numbers_distinct 0 size) (λ k h. is_found k xs (all k (let r = numbers-Has 0 size k h in let l = r.1 in omega (arith, l)))))

-- more numbers, so that all below a bound are there
pub record Filled (size bound : ℕ) (xs : List ℕ) : Type 0 where
  pub more : List ℕ
  pub distinct : AreDistinct (xs ++ more)
  pub below : AreBelow size (xs ++ more)
  pub all : (k : ℕ) → k < bound → place_in k (xs ++ more) ≡ None → ⊥

next_filled : (size bound : ℕ) (xs : List ℕ) → bound < size → (f : Filled size bound xs) → (o : Option ℕ) → place_in bound (xs ++ f.more) ≡ o → Filled size (suc bound) xs
next_filled size bound xs l f (Some c) p = record {
  more = f.more;
  distinct = f.distinct;
  below = f.below;
  all = λ k h e. elim (last k bound h) [ inl s ↦ f.all k s e | inr s ↦ clash (subst (λ z. place_in z (xs ++ f.more) ≡ Some c) (sym s) p) e ];
}
  where
    last : (k bound : ℕ) → k < suc bound → (k < bound) ⊎ (k ≡ bound)
    last k bound h = grind arith

    clash : {o : Option ℕ} {c : ℕ} → o ≡ Some c → o ≡ None → ⊥
    clash p q = cc
next_filled size bound xs l f None p =
    let same : (xs ++ f.more) ++ bound ∷ [] ≡ xs ++ (f.more ++ bound ∷ []) = append_assoc xs f.more (bound ∷ []) in
    record {
      more = f.more ++ bound ∷ [];
      distinct = subst AreDistinct same (longer_distinct (xs ++ f.more) bound f.distinct p);
      below = subst (AreBelow size) same (below_longer size (xs ++ f.more) bound f.below l);
      all = λ k h e. elim (last k bound h) [
        | inl s ↦ f.all k s (gone k (xs ++ f.more) (place_in k (xs ++ f.more)) refl (subst (λ z. place_in k z ≡ None) (sym same) e))
        | inr s ↦ clash (subst (λ z. place_in z ((xs ++ f.more) ++ bound ∷ []) ≡ Some (length (xs ++ f.more))) (sym s) (at_end (xs ++ f.more) bound p)) (subst (λ z. place_in k z ≡ None) (sym same) e)
      ];
    }
  where
    last : (k bound : ℕ) → k < suc bound → (k < bound) ⊎ (k ≡ bound)
    last k bound h = grind arith

    clash : {o : Option ℕ} {c : ℕ} → o ≡ Some c → o ≡ None → ⊥
    clash p q = cc

    gone : (k : ℕ) (ys : List ℕ) (o : Option ℕ) → place_in k ys ≡ o → place_in k (ys ++ bound ∷ []) ≡ None → place_in k ys ≡ None
    gone k ys None q e = q
    gone k ys (Some c) q e = absurd (clash (stays k ys (bound ∷ []) c q) e)

filled : (size bound : ℕ) (xs : List ℕ) → AreDistinct xs → AreBelow size xs → bound ≤ size → Filled size bound xs
filled size zero xs d b l = record {
  more = [];
  distinct = subst AreDistinct (sym (nil_right xs)) d;
  below = subst (AreBelow size) (sym (nil_right xs)) b;
  all = λ k h e. omega arith;
}
filled size (suc bound) xs d b l = let f = filled size bound xs d b (omega arith) in next_filled size bound xs (omega arith) f (place_in bound (xs ++ f.more)) refl

pub fill_up : (size : ℕ) (xs : List ℕ) → AreDistinct xs → AreBelow size xs → Filled size size xs
fill_up size xs d b = filled size size xs d b (omega arith)
