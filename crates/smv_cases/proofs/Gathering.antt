-- Cases are gathered one after the other.
use Rattle.std.proofs.Common.{◌≡◌, ℕ, zero, suc, ◌+◌, ◌-◌, ◌<◌, ◌≤◌, List, [], ◌∷◌, ◌++◌, map, length, Bool, true, false, if◌then◌else◌, Option, Some, None, nat_lt, refl, sym, ap, ◌∙◌, arith, append_assoc, Ok, Err}
use Rattle.std.specs.Prelude.{Result}
use Rattle.std.specs.List.{flat_map}
use Rattle.std.specs.declared.alloc.AllocError.{AllocError}
use Rattle.std.proofs.lemmas.Grind.{flat_map-append}
use Rattle.std.proofs.lemmas.List.{map-append, length-append}
use Rattle.smv_core.specs.Values.{numbers_from}
use Rattle.smv_core.specs.declared.flat.Class.{Class}
use Rattle.smv_core.specs.declared.flat.Simple.TheVariants.{Range}
use Rattle.smv_core.specs.declared.flat.Class.TheVariants.{Named, Rest}
use Rattle.smv_cases.specs.declared.slots.Treatment.{Treatment}
use Rattle.smv_cases.specs.declared.slots.Slot.{Slot}
use Rattle.smv_cases.specs.declared.rules.Limits.{Limits}
use Rattle.smv_cases.specs.Slots.{stands, stands_by, grown_by, grown_behind, AreLimits, Gathers}

abbrev Cases : Type 0
Cases = List (List Class)

pub few : (b : Bool) (old new more : Cases) → b ≡ true → Gathers {E = AllocError} (Ok b) old new more → (new ≡ old ++ more) × (length new ≤ 4096)
few true old new more e g = g
few false old new more e g = absurd (cc)

pub many : (b : Bool) (old new more : Cases) → b ≡ false → Gathers {E = AllocError} (Ok b) old new more → 4096 < length old + length more
many true old new more e g = absurd (cc)
many false old new more e g = g

-- those that follow stand behind those before them
pub after : {E : Type 0} (r : Result Bool E) (old mid new a b : Cases) → mid ≡ old ++ a → Gathers r mid new b → Gathers r old new (a ++ b)
after (Ok true) old mid new a b m g = (g.0 ∙ (ap (λ xs. xs ++ b) m ∙ append_assoc old a b), g.1)
after (Ok false) old mid new a b m g =
    let x = ap (λ (xs : Cases). length xs) m in let y = length-append old a in let z = length-append a b in omega (arith, g, x, y, z)
after (Err e) old mid new a b m g = tt

-- what is behind does not make them fewer
pub more_behind : (old a b : Cases) → 4096 < length old + length a → 4096 < length old + length (a ++ b)
more_behind old a b l = let z = length-append a b in omega (arith, l, z)

numbers-split : (low a b : ℕ) → numbers_from low (a + suc b) ≡ numbers_from low a ++ (low + a) ∷ numbers_from (low + a + 1) b
numbers-split low zero b = let e : low ≡ low + 0 = omega arith in let n : zero + suc b ≡ suc b = omega arith in
    ap (numbers_from low) n ∙ ap (λ k. k ∷ numbers_from (k + 1) b) e
numbers-split low (suc a) b =
    let e : low + 1 + a ≡ low + suc a = omega arith in let n : suc a + suc b ≡ suc (a + suc b) = omega arith in
    ap (numbers_from low) n ∙ (ap (λ ks. low ∷ ks) (numbers-split (low + 1) a b) ∙ ap (λ k. low ∷ (numbers_from (low + 1) a ++ k ∷ numbers_from (k + 1) b)) e)

module _ (f : ℕ → Class) (g : Class → Cases) (low : ℕ) where
  abbrev upto : ℕ → Cases
  upto n = flat_map g (map f (numbers_from low n))

  split : (a b : ℕ) → upto (a + suc b) ≡ upto a ++ (g (f (low + a)) ++ flat_map g (map f (numbers_from (low + a + 1) b)))
  split a b =
      ap (λ ks. flat_map g (map f ks)) (numbers-split low a b)
      ∙ (ap (flat_map g) (map-append f (numbers_from low a) ((low + a) ∷ numbers_from (low + a + 1) b)) ∙ flat_map-append g (map f (numbers_from low a)) (f (low + a) ∷ map f (numbers_from (low + a + 1) b)))

  nil_right : (xs : Cases) → xs ++ [] ≡ xs
  nil_right [] = refl
  nil_right (x ∷ xs) = ap (λ ys. x ∷ ys) (nil_right xs)

  -- one number more
  pub one_more : (k : ℕ) (old mid new : Cases) → low ≤ k → mid ≡ old ++ upto (k - low) → new ≡ mid ++ g (f k) → new ≡ old ++ upto (k + 1 - low)
  one_more k old mid new l m n =
      let j : k + 1 - low ≡ (k - low) + suc 0 = omega (arith, l) in
      let i : low + (k - low) ≡ k = omega (arith, l) in
      n ∙ (ap (λ xs. xs ++ g (f k)) m ∙ (append_assoc old (upto (k - low)) (g (f k)) ∙ ap (λ xs. old ++ xs) (sym (
      ap upto j ∙ (split (k - low) 0 ∙ (ap (λ xs. upto (k - low) ++ xs) (nil_right (g (f (low + (k - low))))) ∙ ap (λ j. upto (k - low) ++ g (f j)) i))
      ))))

  -- too many at a number are too many in all
  pub too_many : (k n : ℕ) (old mid : Cases) → low ≤ k → k < low + n → mid ≡ old ++ upto (k - low) → 4096 < length mid + length (g (f k)) → 4096 < length old + length (upto n)
  too_many k n old mid l u m h =
      let b = n - (k - low) - 1 in
      let j : n ≡ (k - low) + suc b = omega (arith, l, u) in
      let i : low + (k - low) ≡ k = omega (arith, l) in
      let same : upto n ≡ upto (k - low) ++ (g (f k) ++ flat_map g (map f (numbers_from (low + (k - low) + 1) b))) =
      ap upto j ∙ (split (k - low) b ∙ ap (λ j. upto (k - low) ++ (g (f j) ++ flat_map g (map f (numbers_from (low + (k - low) + 1) b)))) i) in
      let x = ap (λ (xs : Cases). length xs) same in
      let y = length-append (upto (k - low)) (g (f k) ++ flat_map g (map f (numbers_from (low + (k - low) + 1) b))) in
      let z = length-append (g (f k)) (flat_map g (map f (numbers_from (low + (k - low) + 1) b))) in
      let w = ap (λ (xs : Cases). length xs) m ∙ length-append old (upto (k - low)) in
      omega (arith, h, x, y, z, w)

-- ---- limits

-- of numbers from a first on the test passes those below a last
some_pass : (g : Class → Cases) (test : Class → Bool) (make : ℕ → Class) (low n l : ℕ) → l ≤ n → ((k : ℕ) → low ≤ k → k < low + n → test (make k) ≡ nat_lt k (low + l)) →
    flat_map (λ x. if test x then g x else []) (map make (numbers_from low n)) ≡ flat_map g (map make (numbers_from low l))
some_pass g test make low zero zero few is = refl
some_pass g test make low zero (suc l) few is = absurd (omega arith)
some_pass g test make low (suc n) zero few is =
    ap (λ (b : Bool). (if b then g (make low) else []) ++ flat_map (λ x. if test x then g x else []) (map make (numbers_from (low + 1) n))) (is low (omega arith) (omega arith) ∙ no low)
    ∙ some_pass g test make (low + 1) n zero (omega arith) (λ k a b. is k (omega arith) (omega arith) ∙ neither k low a)
  where
    no : (low : ℕ) → nat_lt low (low + 0) ≡ false
    no low = grind arith

    neither : (k low : ℕ) → low + 1 ≤ k → nat_lt k (low + 0) ≡ nat_lt k (low + 1 + 0)
    neither k low a = let p : nat_lt k (low + 0) ≡ false = grind arith in let q : nat_lt k (low + 1 + 0) ≡ false = grind arith in p ∙ sym q
some_pass g test make low (suc n) (suc l) few is =
    ap (λ (b : Bool). (if b then g (make low) else []) ++ flat_map (λ x. if test x then g x else []) (map make (numbers_from (low + 1) n))) (is low (omega arith) (omega arith) ∙ yes low l)
    ∙ ap (λ xs. g (make low) ++ xs) (some_pass g test make (low + 1) n l (omega arith) (λ k a b. is k (omega arith) (omega arith) ∙ same k low l))
  where
    yes : (low l : ℕ) → nat_lt low (low + suc l) ≡ true
    yes low l = grind arith

    same : (k low l : ℕ) → nat_lt k (low + suc l) ≡ nat_lt k (low + 1 + l)
    same k low l = let e : low + suc l ≡ low + 1 + l = omega arith in ap (nat_lt k) e

module _ (slots : List Slot) (before : List Class) (slot : Slot) (more : List Slot) where
  -- within limits that are right each class may stand
  pub limited : (n : ℕ) (limits : Limits) → limits.named ≤ n → limits.rests ≤ n + 1 → AreLimits n (stands slots before slot) limits →
      flat_map (grown_by slots before slot more) (map Named (numbers_from 0 n) ++ map Rest (numbers_from 0 (n + 1)))
      ≡ flat_map (grown_behind slots before more) (map Named (numbers_from 0 limits.named)) ++ flat_map (grown_behind slots before more) (map Rest (numbers_from 0 limits.rests))
  limited n limits named rests are =
      flat_map-append (grown_by slots before slot more) (map Named (numbers_from 0 n)) (map Rest (numbers_from 0 (n + 1)))
      ∙ (ap (λ xs. xs ++ flat_map (grown_by slots before slot more) (map Rest (numbers_from 0 (n + 1)))) (some_pass (grown_behind slots before more) (stands slots before slot) (λ k. Named k) 0 n limits.named named (λ k a b. are.0 k (omega arith) ∙ zero_more k limits.named))
      ∙ ap (λ xs. flat_map (grown_behind slots before more) (map Named (numbers_from 0 limits.named)) ++ xs) (some_pass (grown_behind slots before more) (stands slots before slot) (λ k. Rest k) 0 (n + 1) limits.rests rests (λ k a b. are.1 k (omega arith) ∙ zero_more k limits.rests)))
    where
      zero_more : (k l : ℕ) → nat_lt k l ≡ nat_lt k (0 + l)
      zero_more k l = let e : l ≡ 0 + l = omega arith in ap (nat_lt k) e

  -- each number of a range may stand
  pub ranged : (low high : ℕ) → slot.over ≡ Range low high → (xs : List Class) → flat_map (grown_by slots before slot more) xs ≡ flat_map (grown_behind slots before more) xs
  ranged low high is [] = refl
  ranged low high is (x ∷ xs) =
      ap (λ b. (if b then grown_behind slots before more x else []) ++ flat_map (grown_by slots before slot more) xs) (ap (λ over. stands_by slots before slot.treatment over slot.listed x) is ∙ any slot.treatment)
      ∙ ap (λ ys. grown_behind slots before more x ++ ys) (ranged low high is xs)
    where
      any : (t : Option Treatment) → stands_by slots before t (Range low high) slot.listed x ≡ true
      any None = refl
      any (Some t) = refl
