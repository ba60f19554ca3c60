-- Paths as lists and as functions of time.
use Rattle.std.proofs.Common.{◌≡◌, ℕ, zero, suc, ◌+◌, ◌<◌, ◌≤◌, List, [], ◌∷◌, ◌++◌, length, true, ◌&&◌, refl, sym, ap, subst, ◌∙◌, inl, inr, Option, Some, None, arith}
use Rattle.std.proofs.lemmas.Bool.{cases_lt}
use Rattle.law_lists.proofs.Booleans.{and_both, left_of, right_of}
use Rattle.law_obligations.specs.Sets.{Has, first, later}
use Rattle.law_obligations.specs.Circular.{Demand, Obligation, always, is_violating, is_violating_after}
use Rattle.law_obligations.specs.CasePaths.{last_of, states_from}

-- the state before a time, if there is one
abbrev pub before_at : {X : Type 0} → (ℕ → X) → ℕ → Option X
before_at path zero = None
before_at path (suc i) = Some (path i)

-- a violating path of so many steps, as a function of time
pub record Violating {X : Type 0} (o : Obligation X) (k : ℕ) (path : ℕ → X) : Type 0 where
  pub now : (i : ℕ) → i ≤ k → o.now (before_at path i) (path i) ≡ true
  pub before : (i : ℕ) → i < k → o.before (before_at path i) (path i) ≡ true
  pub broken : o.broken (before_at path k) (path k) ≡ true

module _ {X : Type 0} (o : Obligation X) where
  after_cons : (old : Option X) (path : ℕ → X) (s : X) (i n : ℕ) →
      is_violating_after o old (s ∷ states_from path i n) ≡ (o.now old s && (o.before old s && is_violating_after o (Some s) (states_from path i n)))
  after_cons old path s i zero = refl
  after_cons old path s i (suc n) = refl

  to_list_from : (path : ℕ → X) (k : ℕ) → Violating o k path → (n i : ℕ) → n + i ≡ k → is_violating_after o (before_at path i) (states_from path i n) ≡ true
  to_list_from path k is zero i e =
      let same : k ≡ i = omega arith in
      and_both (is.now i (omega arith)) (subst (λ (j : ℕ). o.broken (before_at path j) (path j) ≡ true) same is.broken)
  to_list_from path k is (suc n) i e =
      after_cons (before_at path i) path (path i) (suc i) n
      ∙ and_both (is.now i (omega arith)) (and_both (is.before i (omega arith)) (to_list_from path k is n (suc i) (omega arith)))

  pub to_list : (path : ℕ → X) (k : ℕ) → Violating o k path → is_violating o (states_from path 0 k) ≡ true
  to_list path k is = to_list_from path k is k 0 (omega arith)

  -- what a violating list says from a time on
  record From (path : ℕ → X) (i k : ℕ) : Type 0 where
    now : (j : ℕ) → i ≤ j → j ≤ k → o.now (before_at path j) (path j) ≡ true
    before : (j : ℕ) → i ≤ j → j < k → o.before (before_at path j) (path j) ≡ true
    broken : o.broken (before_at path k) (path k) ≡ true

  from_list_from : (path : ℕ → X) (k n i : ℕ) → n + i ≡ k → is_violating_after o (before_at path i) (states_from path i n) ≡ true → From path i k
  from_list_from path k zero i e is =
      let same : i ≡ k = omega arith in
      let now : o.now (before_at path i) (path i) ≡ true = left_of (o.now (before_at path i) (path i)) (o.broken (before_at path i) (path i)) is in
      let broken : o.broken (before_at path i) (path i) ≡ true = right_of (o.now (before_at path i) (path i)) (o.broken (before_at path i) (path i)) is in
      record {
        now = λ j lo hi. let at : i ≡ j = omega arith in subst (λ (m : ℕ). o.now (before_at path m) (path m) ≡ true) at now;
        before = λ j lo hi. absurd (omega arith);
        broken = subst (λ (m : ℕ). o.broken (before_at path m) (path m) ≡ true) same broken;
      }
  from_list_from path k (suc n) i e is =
      let all : (o.now (before_at path i) (path i) && (o.before (before_at path i) (path i) && is_violating_after o (Some (path i)) (states_from path (suc i) n))) ≡ true = sym (after_cons (before_at path i) path (path i) (suc i) n) ∙ is in
      let now : o.now (before_at path i) (path i) ≡ true = left_of (o.now (before_at path i) (path i)) (o.before (before_at path i) (path i) && is_violating_after o (Some (path i)) (states_from path (suc i) n)) all in
      let rest : (o.before (before_at path i) (path i) && is_violating_after o (Some (path i)) (states_from path (suc i) n)) ≡ true = right_of (o.now (before_at path i) (path i)) (o.before (before_at path i) (path i) && is_violating_after o (Some (path i)) (states_from path (suc i) n)) all in
      let before : o.before (before_at path i) (path i) ≡ true = left_of (o.before (before_at path i) (path i)) (is_violating_after o (Some (path i)) (states_from path (suc i) n)) rest in
      let more : From path (suc i) k = from_list_from path k n (suc i) (omega arith) (right_of (o.before (before_at path i) (path i)) (is_violating_after o (Some (path i)) (states_from path (suc i) n)) rest) in
      record {
        now = λ j lo hi. elim (cases_lt i j) [
          | inl lt ↦ more.now j lt hi
          | inr past ↦ let at : i ≡ j = omega arith in subst (λ (m : ℕ). o.now (before_at path m) (path m) ≡ true) at now
        ];
        before = λ j lo hi. elim (cases_lt i j) [
          | inl lt ↦ more.before j lt hi
          | inr past ↦ let at : i ≡ j = omega arith in subst (λ (m : ℕ). o.before (before_at path m) (path m) ≡ true) at before
        ];
        broken = more.broken;
      }

  pub from_list : (path : ℕ → X) (k : ℕ) → is_violating o (states_from path 0 k) ≡ true → Violating o k path
  from_list path k is =
      let all = from_list_from path k k 0 (omega arith) is in
      record { now = λ i hi. all.now i (omega arith) hi; before = λ i hi. all.before i (omega arith) hi; broken = all.broken }

-- a list as a function of time
abbrev pub at_time : {X : Type 0} → List X → X → ℕ → X
at_time [] d i = d
at_time (x ∷ xs) d zero = x
at_time (x ∷ xs) d (suc i) = at_time xs d i

pub each_time : {X : Type 0} (P : X → Type 0) (xs : List X) (d : X) → ((x : X) → Has xs x → P x) → P d → (i : ℕ) → P (at_time xs d i)
each_time P [] d each own i = own
each_time P (x ∷ xs) d each own zero = each x first
each_time P (x ∷ xs) d each own (suc i) = each_time P xs d (λ y h. each y (later h)) own i

pub length_states : {X : Type 0} (path : ℕ → X) (i n : ℕ) → length (states_from path i n) ≡ suc n
length_states path i zero = refl
length_states path i (suc n) = let e = length_states path (suc i) n in omega arith

pub Has_states : {X : Type 0} (path : ℕ → X) (i n : ℕ) (x : X) → Has (states_from path i n) x → (j : ℕ) × (j ≤ n + i) × (x ≡ path j)
Has_states path i zero _ first = (i, omega arith, refl)
Has_states path i zero x (later h) = elim h [ ]
Has_states path i (suc n) _ first = (i, omega arith, refl)
Has_states path i (suc n) x (later h) = let r = Has_states path (suc i) n x h in let le = r.1 in (r.0, omega arith, r.2)

pub shifted : {X : Type 0} (f : ℕ → X) (i n : ℕ) → states_from f (suc i) n ≡ states_from (λ j. f (suc j)) i n
shifted f i zero = refl
shifted f i (suc n) = ap (λ xs. f (suc i) ∷ xs) (shifted f (suc i) n)

pub states_of_list : {X : Type 0} (xs : List X) (d : X) (n : ℕ) → length xs ≡ suc n → states_from (at_time xs d) 0 n ≡ xs
states_of_list [] d n e = absurd (omega arith)
states_of_list (x ∷ []) d zero e = refl
states_of_list (x ∷ []) d (suc n) e = absurd (omega arith)
states_of_list (x ∷ y ∷ xs) d zero e = absurd (omega arith)
states_of_list (x ∷ y ∷ xs) d (suc n) e = ap (λ ys. x ∷ ys) (shifted (at_time (x ∷ y ∷ xs) d) 0 n ∙ states_of_list (y ∷ xs) d n (omega arith))

-- ---- one more state

pub last_more : {X : Type 0} (xs : List X) (x : X) → last_of (xs ++ (x ∷ [])) ≡ Some x
last_more [] x = refl
last_more (y ∷ []) x = refl
last_more (y ∷ z ∷ xs) x = last_more (z ∷ xs) x

pub length_more : {X : Type 0} (xs : List X) (x : X) → length (xs ++ (x ∷ [])) ≡ suc (length xs)
length_more [] x = refl
length_more (y ∷ xs) x = let e = length_more xs x in omega arith

pub always_more : {X : Type 0} (demand : Demand X) (old : Option X) (xs : List X) (r x : X) → last_of xs ≡ Some r → always demand old xs ≡ true → demand (Some r) x ≡ true → always demand old (xs ++ (x ∷ [])) ≡ true
always_more demand old [] r x e all met = absurd (none_some e)
  where
    none_some : {Y : Type 0} {y : Y} → None ≡ Some y → ⊥
    none_some e = cc
always_more demand old (y ∷ []) r x e all met =
    and_both (left_of (demand old y) true all) (and_both (subst (λ z. demand (Some z) x ≡ true) (sym (inner e)) met) refl)
  where
    inner : {Y : Type 0} {a b : Y} → Some a ≡ Some b → a ≡ b
    inner e = cc
always_more demand old (y ∷ z ∷ xs) r x e all met =
    and_both (left_of (demand old y) (always demand (Some y) (z ∷ xs)) all) (always_more demand (Some y) (z ∷ xs) r x e (right_of (demand old y) (always demand (Some y) (z ∷ xs)) all) met)
