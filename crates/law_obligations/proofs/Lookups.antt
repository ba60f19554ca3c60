-- What lookups in lists give.
use Rattle.std.proofs.Common.{◌≡◌, ℕ, zero, suc, List, [], ◌∷◌, ◌++◌, map, Bool, true, false, cond, if◌then◌else◌, refl, sym, subst, ◌⊎◌, inl, inr, Option, Some, None, option_map, filter, find, option_to_list}
use Rattle.std.specs.List.{slice_get, list_any, zip}
use Rattle.law_lists.proofs.Options.{some_is}
use Rattle.law_obligations.specs.Sets.{Has, first, later}
use Rattle.law_obligations.proofs.Members.{Has-uncons, Has-left, Has-right, any-found, any-some}
use Rattle.law_obligations.specs.Outlines.{place_of}
use Rattle.law_obligations.specs.Reached.{is_among, with_all, following, in_turn, reached}

pub none_or_some : {X : Type 0} (o : Option X) → (o ≡ None) ⊎ ((x : X) × (o ≡ Some x))
none_or_some None = inl refl
none_or_some (Some x) = inr (x, refl)

pub Has-option : {X : Type 0} (o : Option X) {x : X} → Has (option_to_list o) x → o ≡ Some x
Has-option None h = elim h [ ]
Has-option (Some y) first = refl
Has-option (Some y) (later h) = elim h [ ]

-- under a test
pub Has-tested : {X : Type 0} (b : Bool) {xs : List X} {x : X} → Has (if b then xs else []) x → (b ≡ true) × Has xs x
Has-tested true h = (refl, h)
Has-tested false h = elim h [ ]

pub Has-from_filter : {X : Type 0} (p : X → Bool) (xs : List X) {x : X} → Has (filter p xs) x → Has xs x × (p x ≡ true)
Has-from_filter p [] h = elim h [ ]
Has-from_filter {X} p (y ∷ xs) {x} h = at (p y) refl h (λ k. Has-from_filter p xs k)
  where
    at : (b : Bool) → p y ≡ b → Has (cond b (y ∷ filter p xs) (filter p xs)) x → (Has (filter p xs) x → Has xs x × (p x ≡ true)) → Has (y ∷ xs) x × (p x ≡ true)
    at true e h goes = elim (Has-uncons h) [
      | inl i ↦ (subst (Has (y ∷ xs)) (sym i) first, subst (λ z. p z ≡ true) (sym i) e)
      | inr k ↦ let r = goes k in (later r.0, r.1)
    ]
    at false e h goes = let r = goes h in (later r.0, r.1)

pub Has-filter : {X : Type 0} (p : X → Bool) {xs : List X} {x : X} → Has xs x → p x ≡ true → Has (filter p xs) x
Has-filter p first e = rw e first
Has-filter p (later {y = y} h) e = past (p y) y (Has-filter p h e)
  where
    past : {X : Type 0} (b : Bool) (y : X) {xs : List X} {x : X} → Has xs x → Has (cond b (y ∷ xs) xs) x
    past true y h = later h
    past false y h = h

pub find-some : {X : Type 0} (p : X → Bool) (xs : List X) {x : X} → find p xs ≡ Some x → Has xs x × (p x ≡ true)
find-some p [] e = absurd (cc)
find-some {X} p (y ∷ xs) {x} e = at (p y) refl e (λ k. find-some p xs k)
  where
    at : (b : Bool) → p y ≡ b → cond b (Some y) (find p xs) ≡ Some x → (find p xs ≡ Some x → Has xs x × (p x ≡ true)) → Has (y ∷ xs) x × (p x ≡ true)
    at true i e goes = (subst (Has (y ∷ xs)) (some_is e) first, subst (λ z. p z ≡ true) (some_is e) i)
    at false i e goes = let r = goes e in (later r.0, r.1)

-- the first that passes a test stands at its place
abbrev pub Found : {X : Type 0} → (X → Bool) → List X → ℕ → Type 0
Found {X} p xs k = (x : X) × (slice_get xs k ≡ Some x) × (p x ≡ true)

pub place_of-is : {X : Type 0} (p : X → Bool) (xs : List X) (k : ℕ) → place_of p xs ≡ Some k → Found p xs k
place_of-is p [] k e = absurd (cc)
place_of-is {X} p (y ∷ xs) k e = at (p y) refl (place_of p xs) e (λ j i. place_of-is p xs j i)
  where
    at_later : (o : Option ℕ) → option_map (λ j. suc j) o ≡ Some k → ((j : ℕ) → o ≡ Some j → Found p xs j) → Found p (y ∷ xs) k
    at_later None e goes = absurd (cc)
    at_later (Some j) e goes = let r = goes j refl in subst (Found p (y ∷ xs)) (some_is e) (r.0, r.1, r.2)

    at : (b : Bool) → p y ≡ b → (o : Option ℕ) → (if b then Some 0 else option_map (λ j. suc j) o) ≡ Some k → ((j : ℕ) → o ≡ Some j → Found p xs j) → Found p (y ∷ xs) k
    at true i o e goes = subst (Found p (y ∷ xs)) (some_is e) (y, refl, i)
    at false i o e goes = at_later o e goes

-- members beside what is made of them
pub Has-zip : {X Y : Type 0} (f : X → Y) {xs : List X} {x : X} → Has xs x → Has (zip xs (map f xs)) (x, f x)
Has-zip f first = first
Has-zip f (later h) = later (Has-zip f h)

-- what is reached has that with which it begins
module _ {X : Type 0} (same : X → X → Bool) (next : X → List X) where
  any_left : (f : X → Bool) (xs ys : List X) → list_any f xs ≡ true → list_any f (xs ++ ys) ≡ true
  any_left f xs ys e = let r = any-some f xs e in any-found f (Has-left ys r.1) r.2

  one_more : (found : List X) (x y : X) → is_among same next found y ≡ true → is_among same next (if is_among same next found x then found else found ++ x ∷ []) y ≡ true
  one_more found x y e = at (is_among same next found x)
    where
      at : (b : Bool) → is_among same next (if b then found else found ++ x ∷ []) y ≡ true
      at true = e
      at false = any_left (same y) found (x ∷ []) e

  pub with_all-keeps : (found xs : List X) (y : X) → is_among same next found y ≡ true → is_among same next (with_all same next found xs) y ≡ true
  with_all-keeps found [] y e = e
  with_all-keeps found (x ∷ xs) y e = with_all-keeps (if is_among same next found x then found else found ++ x ∷ []) xs y (one_more found x y e)

  pub with_all-has : ((x : X) → same x x ≡ true) → (found xs : List X) (y : X) → Has xs y → is_among same next (with_all same next found xs) y ≡ true
  with_all-has itself found [] y h = elim h [ ]
  with_all-has itself found (x ∷ xs) y h = elim (Has-uncons h) [
    | inl e ↦ with_all-keeps (if is_among same next found x then found else found ++ x ∷ []) xs y (subst (λ z. is_among same next (if is_among same next found x then found else found ++ x ∷ []) z ≡ true) (sym e) (here (is_among same next found x) refl))
    | inr k ↦ with_all-has itself (if is_among same next found x then found else found ++ x ∷ []) xs y k
  ]
    where
      here : (b : Bool) → is_among same next found x ≡ b → is_among same next (if b then found else found ++ x ∷ []) x ≡ true
      here true e = e
      here false e = any-found (same x) (Has-right found first) (itself x)

  pub in_turn-keeps : (turns place : ℕ) (found : List X) (y : X) → is_among same next found y ≡ true → is_among same next (in_turn same next turns place found) y ≡ true
  in_turn-keeps zero place found y e = e
  in_turn-keeps (suc turns) place found y e = in_turn-keeps turns (suc place) _ y (with_all-keeps found (following same next (slice_get found place)) y e)

  pub reached-has : ((x : X) → same x x ≡ true) → (count : ℕ) (from : List X) (y : X) → Has from y → is_among same next (reached same next count from) y ≡ true
  reached-has itself count from y h = in_turn-keeps count 0 (with_all same next [] from) y (with_all-has itself [] from y h)
