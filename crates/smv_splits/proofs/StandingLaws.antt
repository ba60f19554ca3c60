-- The parameters for which the variables around a split stand, as a list.
use Rattle.std.proofs.Common.{◌≡◌, ℕ, zero, suc, ◌+◌, ◌-◌, List, [], ◌∷◌, ◌++◌, map, length, Bool, true, false, ◌&&◌, cond, refl, ap, sym, ◌∙◌, arith, nat_eq, nat_lt}
use Rattle.std.specs.Prelude.{Option, Some, None, option_map, slice_get, is_none}
use Rattle.std.specs.List.{position, position_from}
use Rattle.std.proofs.lemmas.Iterator.Adapters.{position_from-zero}
use Rattle.std.proofs.lemmas.List.{map-append}
use Rattle.std.proofs.lemmas.Bool.Decides.{nat_tests}
use Rattle.smv_core.specs.Values.{numbers_from}
use Rattle.smv_core.specs.declared.flat.Param.{Param}
use Rattle.smv_core.specs.declared.flat.FlatSplit.{FlatSplit}
use Rattle.law_obligations.specs.Outlines.{place_of}
use Rattle.law_splits.specs.Variables.{Occurrence}
use Rattle.law_splits.specs.Leaves.{old, stands_for}
use Rattle.law_splits.specs.SplitFaults as splits
use Rattle.smv_splits.specs.Parts.{standing_in, is_stray, is_stray_at}

module _ {X : Type 0} (test : X → Bool) where
  from-is : (i : ℕ) (xs : List X) → position_from test i xs ≡ option_map (λ k. i + k) (place_of test xs)
  from-is i [] = refl
  from-is i (x ∷ xs) = by (test x) (from-is (i + 1) xs)
    where
      by : (b : Bool) → position_from test (i + 1) xs ≡ option_map (λ k. i + 1 + k) (place_of test xs) →
          cond b (Some i) (position_from test (i + 1) xs) ≡ option_map (λ k. i + k) (cond b (Some 0) (option_map (λ k. suc k) (place_of test xs)))
      by true e = let z : i + 0 ≡ i = omega arith in ap Some (sym z)
      by false e = e ∙ moved (place_of test xs)
        where
          moved : (o : Option ℕ) → option_map (λ k. i + 1 + k) o ≡ option_map (λ k. i + k) (option_map (λ k. suc k) o)
          moved None = refl
          moved (Some k) = let z : i + 1 + k ≡ i + suc k = omega arith in ap Some z

  -- the first place that passes a test
  from-zero : (xs : List X) → position_from test 0 xs ≡ place_of test xs
  from-zero xs = from-is 0 xs ∙ same (place_of test xs)
    where
      same : (o : Option ℕ) → option_map (λ k. 0 + k) o ≡ o
      same None = refl
      same (Some k) = let z : 0 + k ≡ k = omega arith in ap Some z

  position-is : (xs : List X) → position test xs ≡ place_of test xs
  position-is xs = position_from-zero test xs ∙ from-zero xs

module _ {X Y : Type 0} (f : X → Y) (test : Y → Bool) where
  place-map : (xs : List X) → place_of test (map f xs) ≡ place_of (λ x. test (f x)) xs
  place-map [] = refl
  place-map (x ∷ xs) = ap (λ o. cond (test (f x)) (Some 0) (option_map (λ k. suc k) o)) (place-map xs)

-- numbers, one more at the end
numbers-more : (first n : ℕ) → numbers_from first (suc n) ≡ numbers_from first n ++ (first + n) ∷ []
numbers-more first zero = let e : first + 0 ≡ first = omega arith in ap (λ k. k ∷ []) (sym e)
numbers-more first (suc n) = let e : first + 1 + n ≡ first + suc n = omega arith in ap (λ l. first ∷ l) (numbers-more (first + 1) n ∙ ap (λ k. numbers_from (first + 1) n ++ k ∷ []) e)

pub numbers-to : (n : ℕ) → numbers_from 0 (n + 1) ≡ numbers_from 0 n ++ n ∷ []
numbers-to n = let e : n + 1 ≡ suc n = omega arith in ap (numbers_from 0) e ∙ numbers-more 0 n ∙ ap (λ k. numbers_from 0 n ++ k ∷ []) (zero-plus n)
  where
    zero-plus : (n : ℕ) → 0 + n ≡ n
    zero-plus n = omega arith

-- what stands at a place in a list that is made of numbers
module _ {Y : Type 0} (f : ℕ → Y) where
  at-from : (first n k : ℕ) → slice_get (map f (numbers_from first n)) k ≡ cond (nat_lt k n) (Some (f (first + k))) None
  at-from first zero k = let e : nat_lt k 0 ≡ false = grind (arith, nat_tests) in rw e
  at-from first (suc n) zero = let e : nat_lt 0 (suc n) ≡ true = grind (arith, nat_tests) in let z : first + 0 ≡ first = omega arith in rw e (ap (λ k. Some (f k)) (sym z))
  at-from first (suc n) (suc k) =
      let e : nat_lt (suc k) (suc n) ≡ nat_lt k n = grind (arith, nat_tests) in
      let z : first + 1 + k ≡ first + suc k = omega arith in
      rw e (at-from (first + 1) n k ∙ ap (λ m. cond (nat_lt k n) (Some (f m)) None) z)

  pub at-number : (n k : ℕ) → slice_get (map f (numbers_from 0 n)) k ≡ cond (nat_lt k n) (Some (f k)) None
  at-number n k = let z : 0 + k ≡ k = omega arith in at-from 0 n k ∙ ap (λ m. cond (nat_lt k n) (Some (f m)) None) z

-- a variable is a stray by the list where it is one
pub stray-is : (s : FlatSplit) (r : Occurrence) → is_stray (standing_in s) r.var ≡ splits.is_stray s r
stray-is s r = ap (is_stray_at (standing_in s)) (at-number (stands_for s) (length s.bound) r.var) ∙ by (nat_lt r.var (length s.bound))
  where
    by : (b : Bool) → is_stray_at (standing_in s) (cond b (Some (stands_for s r.var)) None) ≡ (b && is_none (stands_for s r.var))
    by true = refl
    by false = refl

-- one more variable of those around a split
pub standing-step : (s : FlatSplit) (n : ℕ) (vars : List ℕ) (place : Option ℕ) (places places' : List (Option ℕ)) → vars ≡ map (λ (p : Param). p.var) (old s) →
    place ≡ position (λ v. nat_eq v n) vars → places' ≡ places ++ place ∷ [] → places ≡ map (stands_for s) (numbers_from 0 n) → places' ≡ map (stands_for s) (numbers_from 0 (n + 1))
standing-step s n vars place places places' named at put was =
    put ∙ ap (λ l. l ++ place ∷ []) was
    ∙ ap (λ o. map (stands_for s) (numbers_from 0 n) ++ o ∷ []) (at ∙ position-is (λ v. nat_eq v n) vars ∙ ap (place_of (λ v. nat_eq v n)) named ∙ place-map (λ (p : Param). p.var) (λ v. nat_eq v n) (old s))
    ∙ sym (map-append (stands_for s) (numbers_from 0 n) (n ∷ [])) ∙ ap (map (stands_for s)) (sym (numbers-to n))
