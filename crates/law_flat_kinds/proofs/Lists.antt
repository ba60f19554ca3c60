-- Members of lists, and values that are the same.
use Rattle.std.proofs.Common.{◌≡◌, ◌+◌, List, [], ◌∷◌, ◌++◌, filter, Bool, true, false, not, refl, subst, ◌⊎◌, inl, inr}
use Rattle.std.specs.List.{list_all}
use Rattle.std.proofs.lemmas.Bool.{cases_Bool, and_from}
use Rattle.law_lists.proofs.Booleans.{left_of, right_of}
use Rattle.smv_core.specs.Values.{Value, same, is_in}
use Rattle.law_obligations.specs.Sets.{Has, first, later}
use Rattle.law_obligations.proofs.Members.{any-found}
use Rattle.law_obligations.proofs.Lookups.{Has-filter, Has-from_filter}
use Rattle.law_obligations.proofs.Same.{same-itself}
use Rattle.law_designs.specs.Flattening.{different}

pub Has-kept : {X : Type 0} (p : X → Bool) (xs : List X) {x : X} → Has (filter p xs) x → Has xs x
Has-kept p xs h = (Has-from_filter p xs h).0

pub Has-from_different : {X : Type 0} (same : X → X → Bool) (xs : List X) {x : X} → Has (different same xs) x → Has xs x
Has-from_different same [] h = elim h [ ]
Has-from_different same (y ∷ xs) first = first
Has-from_different same (y ∷ xs) (later h) = later (Has-from_different same xs (Has-kept (λ z. not (same y z)) (different same xs) h))

-- where no member passes a test
pub none_passes : {X : Type 0} (p : X → Bool) (xs : List X) → filter p xs ≡ [] → (x : X) → Has xs x → p x ≡ false
none_passes p xs e x h = elim (cases_Bool (p x)) [ inl t ↦ absurd (elim (subst (λ l. Has l x) e (Has-filter p h t)) [ ]) | inr f ↦ f ]

-- a member that passes a test, or none does
pub some_or_none : {X : Type 0} (p : X → Bool) (xs : List X) → ((x : X) × Has xs x × (p x ≡ true)) ⊎ ((x : X) → Has xs x → p x ≡ false)
some_or_none p [] = inr (λ x h. elim h [ ])
some_or_none {X} p (y ∷ xs) = by_test (p y) refl (some_or_none p xs)
  where
    none : p y ≡ false → ((x : X) → Has xs x → p x ≡ false) → (x : X) → Has (y ∷ xs) x → p x ≡ false
    none e rest x first = e
    none e rest x (later h) = rest x h

    by_test : (b : Bool) → p y ≡ b → ((x : X) × Has xs x × (p x ≡ true)) ⊎ ((x : X) → Has xs x → p x ≡ false) → ((x : X) × Has (y ∷ xs) x × (p x ≡ true)) ⊎ ((x : X) → Has (y ∷ xs) x → p x ≡ false)
    by_test true e r = inl (y, first, e)
    by_test false e (inl r) = inl (r.0, later r.1, r.2)
    by_test false e (inr r) = inr (none e r)

pub all-append : {X : Type 0} (p : X → Bool) (xs ys : List X) → list_all p xs ≡ true → list_all p ys ≡ true → list_all p (xs ++ ys) ≡ true
all-append p [] ys h k = k
all-append p (x ∷ xs) ys h k = and_from (p x) (list_all p (xs ++ ys)) (left_of (p x) (list_all p xs) h) (all-append p xs ys (right_of (p x) (list_all p xs) h) k)

pub is_in-Has : (values : List Value) (v : Value) → Has values v → is_in values v ≡ true
is_in-Has values v h = any-found (same v) h (same-itself v)
