-- What leads to a unit at all does so in as many splits as there are.
use Rattle.std.proofs.Common.{◌≡◌, ℕ, zero, suc, ◌<◌, ◌≤◌, List, [], ◌∷◌, length, Bool, true, false, ◌&&◌, ◌||◌, cond, filter, refl, ap, ◌∙◌, ◌⊎◌, inl, inr, arith}
use Rattle.std.specs.List.{list_any}
use Rattle.std.specs.Str.{bytes_eq}
use Rattle.law_lists.proofs.Lists.{filter_few}
use Rattle.smv_core.specs.Values.{Name}
use Rattle.smv_core.specs.declared.flat.Design.{Design}
use Rattle.smv_core.specs.declared.flat.FlatSplit.{FlatSplit}
use Rattle.law_obligations.specs.Sets.{Has, first, later}
use Rattle.law_obligations.proofs.Members.{Has-uncons}
use Rattle.law_splits.specs.Leaves.{named_by}
use Rattle.law_splits.specs.SplitFaults.{is_unit, leads_to_unit}
use Rattle.law_splits.specs.Chains.{LeadsAtLast}

or-more : (a b c : Bool) → (b ≡ true → c ≡ true) → (a || b) ≡ true → (a || c) ≡ true
or-more true b c f e = refl
or-more false b c f e = f e

and-more : (a b c : Bool) → (b ≡ true → c ≡ true) → (a && b) ≡ true → (a && c) ≡ true
and-more true b c f e = f e
and-more false b c f e = e

pub any-more : {X : Type 0} (f g : X → Bool) (xs : List X) → ((x : X) → Has xs x → f x ≡ true → g x ≡ true) → list_any f xs ≡ true → list_any g xs ≡ true
any-more f g [] each e = e
any-more {X} f g (x ∷ xs) each e = at (f x) (g x) (each x first) (any-more f g xs (λ y h. each y (later h))) e
  where
    at : (a b : Bool) → (a ≡ true → b ≡ true) → (list_any f xs ≡ true → list_any g xs ≡ true) → (a || list_any f xs) ≡ true → (b || list_any g xs) ≡ true
    at a true here rest e = refl
    at true false here rest e = absurd (let h : false ≡ true = here refl in cc)
    at false false here rest e = rest e

-- ---- how many pass a test

fewer : {X : Type 0} (f g : X → Bool) → ((x : X) → f x ≡ true → g x ≡ true) → (xs : List X) → length (filter f xs) ≤ length (filter g xs)
fewer f g more [] = omega arith
fewer {X} f g more (x ∷ xs) = at (f x) (g x) (more x) (fewer f g more xs)
  where
    at : (a b : Bool) → (a ≡ true → b ≡ true) → length (filter f xs) ≤ length (filter g xs) → length (cond a (x ∷ filter f xs) (filter f xs)) ≤ length (cond b (x ∷ filter g xs) (filter g xs))
    at true true h l = omega (arith, l)
    at true false h l = absurd (let e : false ≡ true = h refl in cc)
    at false true h l = omega (arith, l)
    at false false h l = l

abbrev AllBack : {X : Type 0} → (X → Bool) → (X → Bool) → List X → Type 0
AllBack {X} f g xs = (x : X) → Has xs x → g x ≡ true → f x ≡ true

all-more : {X : Type 0} (f g : X → Bool) (x : X) (xs : List X) → (g x ≡ true → f x ≡ true) → AllBack f g xs → AllBack f g (x ∷ xs)
all-more f g x xs here rest y first e = here e
all-more f g x xs here rest y (later h) e = rest y h e

-- a test that lets more pass lets none more of these pass, or more of them
same-or-more : {X : Type 0} (f g : X → Bool) → ((x : X) → f x ≡ true → g x ≡ true) → (xs : List X) → AllBack f g xs ⊎ (length (filter f xs) < length (filter g xs))
same-or-more f g more [] = inl (λ x h e. elim h [ ])
same-or-more {X} f g more (x ∷ xs) = at (f x) (g x) refl refl (same-or-more f g more xs)
  where
    at : (a b : Bool) → f x ≡ a → g x ≡ b → AllBack f g xs ⊎ (length (filter f xs) < length (filter g xs)) →
        AllBack f g (x ∷ xs) ⊎ (length (cond (f x) (x ∷ filter f xs) (filter f xs)) < length (cond (g x) (x ∷ filter g xs) (filter g xs)))
    at true b p q (inl back) = inl (all-more f g x xs (λ e. p) back)
    at false false p q (inl back) = inl (all-more f g x xs (λ e. absurd (cc)) back)
    at false true p q r = let l = fewer f g more xs in inr (rw p (rw q (omega (arith, l))))
    at true true p q (inr l) = inr (rw p (rw q (omega (arith, l))))
    at true false p q (inr l) = absurd (let e : g x ≡ true = more x p in cc)
    at false false p q (inr l) = inr (rw p (rw q l))

all-pass : {X : Type 0} (f : X → Bool) (xs : List X) → length xs ≤ length (filter f xs) → (x : X) → Has xs x → f x ≡ true
all-pass f [] l x h = elim h [ ]
all-pass {X} f (y ∷ xs) l x h = at (f y) refl l h (λ m. all-pass f xs m x)
  where
    at : (b : Bool) → f y ≡ b → suc (length xs) ≤ length (cond b (y ∷ filter f xs) (filter f xs)) → Has (y ∷ xs) x → (length xs ≤ length (filter f xs) → Has xs x → f x ≡ true) → f x ≡ true
    at true e l h rest = elim (Has-uncons h) [ inl q ↦ ap f q ∙ e | inr k ↦ rest (omega (arith, l)) k ]
    at false e l h rest = absurd (let m = filter_few f xs in omega (arith, l, m))

-- ---- what leads to a unit

module _ (d : Design) where
  abbrev leads : ℕ → FlatSplit → Bool
  leads n s = leads_to_unit d n (named_by s.of)

  leads-more : (n : ℕ) (name : Name) → leads_to_unit d n name ≡ true → leads_to_unit d (suc n) name ≡ true
  leads-more zero name e = at (is_unit d name) e
    where
      at : (a : Bool) → a ≡ true → (a || list_any (λ s. bytes_eq s.name name && leads zero s) d.splits) ≡ true
      at true e = refl
      at false e = absurd (cc)
  leads-more (suc n) name e =
      or-more (is_unit d name) (list_any (λ s. bytes_eq s.name name && leads n s) d.splits) (list_any (λ s. bytes_eq s.name name && leads (suc n) s) d.splits)
      (any-more (λ s. bytes_eq s.name name && leads n s) (λ s. bytes_eq s.name name && leads (suc n) s) d.splits
      (λ s h. and-more (bytes_eq s.name name) (leads n s) (leads (suc n) s) (leads-more n (named_by s.of)))) e

  abbrev Stable : ℕ → Type 0
  Stable n = AllBack (leads n) (leads (suc n)) d.splits

  stable-more : (n : ℕ) → Stable n → Stable (suc n)
  stable-more n back s h e =
      or-more (is_unit d (named_by s.of)) (list_any (λ t. bytes_eq t.name (named_by s.of) && leads (suc n) t) d.splits) (list_any (λ t. bytes_eq t.name (named_by s.of) && leads n t) d.splits)
      (any-more (λ t. bytes_eq t.name (named_by s.of) && leads (suc n) t) (λ t. bytes_eq t.name (named_by s.of) && leads n t) d.splits
      (λ t k. and-more (bytes_eq t.name (named_by s.of)) (leads (suc n) t) (leads n t) (back t k))) e

  stable-or-many : (n : ℕ) → Stable n ⊎ (n ≤ length (filter (leads n) d.splits))
  stable-or-many zero = inr (omega arith)
  stable-or-many (suc n) = elim (stable-or-many n) [
    | inl back ↦ inl (stable-more n back)
    | inr l ↦ elim (same-or-more (leads n) (leads (suc n)) (λ s. leads-more n (named_by s.of)) d.splits) [ inl back ↦ inl (stable-more n back) | inr m ↦ inr (omega (arith, l, m)) ]
  ]

  at-last : Stable (length d.splits)
  at-last s h e = elim (stable-or-many (length d.splits)) [ inl back ↦ back s h e | inr l ↦ all-pass (leads (length d.splits)) d.splits l s h ]

pub leads_at_last : LeadsAtLast
leads_at_last d s h e = at-last d s h e
