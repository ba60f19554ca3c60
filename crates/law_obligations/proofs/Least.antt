-- What is reached is the least set.
use Rattle.std.proofs.Common.{◌≡◌, ℕ, zero, suc, ◌+◌, ◌<◌, ◌≤◌, List, [], ◌∷◌, ◌++◌, length, Bool, true, false, if◌then◌else◌, not, cond, filter, refl, sym, ap, subst, ◌∙◌, ◌⊎◌, inl, inr, Option, Some, None, arith}
use Rattle.std.specs.List.{slice_get}
use Rattle.std.proofs.lemmas.Option.{slice_get_within}
use Rattle.std.proofs.lemmas.Bool.{cases_Bool}
use Rattle.law_lists.proofs.Booleans.{clash}
use Rattle.law_lists.proofs.Options.{some_is}
use Rattle.law_obligations.specs.Sets.{Has, first, later}
use Rattle.law_obligations.proofs.Members.{Has-uncons, Has-cases, any-found, any-some}
use Rattle.law_obligations.proofs.OneOfEach.{get_Has, Has_get}
use Rattle.law_obligations.specs.Reached.{is_among, with_all, following, in_turn, reached, IsLeast}
use Rattle.law_obligations.proofs.Lookups.{Has-filter, with_all-keeps, with_all-has, in_turn-keeps}

-- no member twice
abbrev AreOnce : {X : Type 0} → List X → Type 0
AreOnce [] = Unit {0}
AreOnce (x ∷ xs) = (Has xs x → ⊥) × AreOnce xs

once_more : {X : Type 0} (xs : List X) (x : X) → AreOnce xs → (Has xs x → ⊥) → AreOnce (xs ++ x ∷ [])
once_more [] x o n = ((λ h. elim h [ ]), tt)
once_more (y ∷ xs) x o n = ((λ h. elim (Has-cases xs (x ∷ []) h) [ inl l ↦ o.0 l | inr r ↦ elim (Has-uncons r) [ inl e ↦ n (subst (Has (y ∷ xs)) e first) | inr k ↦ elim k [ ] ] ]), once_more xs x o.1 (λ h. n (later h)))

module _ {X : Type 0} (same : X → X → Bool) (equal : (x y : X) → same x y ≡ true → x ≡ y) (itself : (x : X) → same x x ≡ true) where
  -- one member fewer
  abbrev without : X → List X → List X
  without x ys = filter (λ y. not (same x y)) ys

  few : (p : X → Bool) (ys : List X) → length (filter p ys) ≤ length ys
  few p [] = omega arith
  few p (y ∷ ys) = at (p y) (few p ys)
    where
      at : (b : Bool) → length (filter p ys) ≤ length ys → length (cond b (y ∷ filter p ys) (filter p ys)) ≤ suc (length ys)
      at true l = omega arith
      at false l = omega arith

  fewer : (x : X) (ys : List X) → Has ys x → length (without x ys) < length ys
  fewer x [] h = elim h [ ]
  fewer x (y ∷ ys) h = elim (cases_Bool (same x y)) [
    | inl e ↦ rw e (let l = few (λ y. not (same x y)) ys in omega (arith, l))
    | inr e ↦ rw e (let l = fewer x ys (elim (Has-uncons h) [ inl i ↦ absurd (clash (subst (λ z. same x z ≡ true) i (itself x)) e) | inr k ↦ k ]) in omega (arith, l))
  ]

  -- a list without repetition is no longer than one that has its members
  no_longer : (xs ys : List X) → AreOnce xs → ((x : X) → Has xs x → Has ys x) → length xs ≤ length ys
  no_longer [] ys o h = omega arith
  no_longer (x ∷ xs) ys o h =
      let l = no_longer xs (without x ys) o.1 (λ y k. Has-filter (λ y. not (same x y)) (h y (later k)) (apart y k (same x y) refl)) in
      let m = fewer x ys (h x first) in
      omega (arith, l, m)
    where
      apart : (y : X) → Has xs y → (b : Bool) → same x y ≡ b → not b ≡ true
      apart y k true e = absurd (o.0 (subst (Has xs) (sym (equal x y e)) k))
      apart y k false e = refl

  module _ (next : X → List X) where
    among-Has : (xs : List X) (x : X) → is_among same next xs x ≡ true → Has xs x
    among-Has xs x e = let r = any-some (same x) xs e in subst (Has xs) (sym (equal x r.0 r.2)) r.1

    Has-among : (xs : List X) (x : X) → Has xs x → is_among same next xs x ≡ true
    Has-among xs x h = any-found (same x) h (itself x)

    with_one : (b : Bool) (found : List X) (x : X) → is_among same next found x ≡ b → AreOnce found → AreOnce (if b then found else found ++ x ∷ [])
    with_one true found x e o = o
    with_one false found x e o = once_more found x o (λ h. clash (Has-among found x h) e)

    with_all-once : (found xs : List X) → AreOnce found → AreOnce (with_all same next found xs)
    with_all-once found [] o = o
    with_all-once found (x ∷ xs) o = with_all-once (if is_among same next found x then found else found ++ x ∷ []) xs (with_one (is_among same next found x) found x refl o)

    -- members of what is found and of what is added
    of_one : (b : Bool) (found : List X) (x y : X) → Has (if b then found else found ++ x ∷ []) y → Has found y ⊎ (y ≡ x)
    of_one true found x y h = inl h
    of_one false found x y h = elim (Has-cases found (x ∷ []) h) [ inl l ↦ inl l | inr r ↦ elim (Has-uncons r) [ inl e ↦ inr e | inr k ↦ elim k [ ] ] ]

    of_all : (found xs : List X) (y : X) → Has (with_all same next found xs) y → Has found y ⊎ Has xs y
    of_all found [] y h = inl h
    of_all found (x ∷ xs) y h = elim (of_all (if is_among same next found x then found else found ++ x ∷ []) xs y h) [
      | inl l ↦ elim (of_one (is_among same next found x) found x y l) [ inl f ↦ inl f | inr e ↦ inr (subst (Has (x ∷ xs)) (sym e) first) ]
      | inr r ↦ inr (later r)
    ]

    -- what stands at a place stays there
    get_left : (xs ys : List X) (k : ℕ) (x : X) → slice_get xs k ≡ Some x → slice_get (xs ++ ys) k ≡ Some x
    get_left [] ys k x e = absurd (cc)
    get_left (y ∷ xs) ys zero x e = e
    get_left (y ∷ xs) ys (suc k) x e = get_left xs ys k x e

    stays_one : (b : Bool) (found : List X) (y : X) (k : ℕ) (x : X) → slice_get found k ≡ Some x → slice_get (if b then found else found ++ y ∷ []) k ≡ Some x
    stays_one true found y k x e = e
    stays_one false found y k x e = get_left found (y ∷ []) k x e

    stays : (found xs : List X) (k : ℕ) (x : X) → slice_get found k ≡ Some x → slice_get (with_all same next found xs) k ≡ Some x
    stays found [] k x e = e
    stays found (y ∷ xs) k x e = stays (if is_among same next found y then found else found ++ y ∷ []) xs k x (stays_one (is_among same next found y) found y k x e)

    there : (found : List X) (k j : ℕ) (z : X) → slice_get found k ≡ Some z → j ≤ k → (y : X) × (slice_get found j ≡ Some y)
    there [] k j z e l = absurd (cc)
    there (x ∷ found) k zero z e l = (x, refl)
    there (x ∷ found) zero (suc j) z e l = absurd (omega arith)
    there (x ∷ found) (suc k) (suc j) z e l = there found k j z e (omega arith)

    -- those before a place have had their turn
    abbrev AreDone : ℕ → List X → Type 0
    AreDone place found = (j : ℕ) (x : X) → j < place → slice_get found j ≡ Some x → (y : X) → Has (next x) y → Has found y

    last_or_before : (j k : ℕ) → j < suc k → (j ≡ k) ⊎ (j < k)
    last_or_before j k l = grind arith

    one_done : (place : ℕ) (found : List X) → AreDone place found → (o : Option X) → slice_get found place ≡ o → AreDone (suc place) (with_all same next found (following same next o))
    one_done place found d None e j x l i y h = elim (last_or_before j place l) [
      | inl s ↦ absurd (let q : Some x ≡ None = sym i ∙ (ap (slice_get found) s ∙ e) in cc)
      | inr m ↦ d j x m i y h
    ]
    one_done place found d (Some z) e j x l i y h =
        let r = there found place j z e (omega arith) in
        let same_x : r.0 ≡ x = some_is (sym (stays found (next z) j r.0 r.1) ∙ i) in
        elim (last_or_before j place l) [
          | inl s ↦ let q : z ≡ x = some_is (sym e ∙ (ap (slice_get found) (sym s) ∙ r.1)) ∙ same_x in
              among-Has _ y (with_all-has same next itself found (next z) y (subst (λ z. Has (next z) y) (sym q) h))
          | inr m ↦ among-Has _ y (with_all-keeps same next found (next z) y (Has-among found y (d j x m (r.1 ∙ ap Some same_x) y h)))
        ]

    done : (turns place : ℕ) (found : List X) → AreDone place found → AreDone (turns + place) (in_turn same next turns place found)
    done zero place found d = λ j x l. d j x (omega arith)
    done (suc turns) place found d = λ j x l. done turns (suc place) (with_all same next found (following same next (slice_get found place))) (one_done place found d (slice_get found place) refl) j x (omega arith)

    -- what is found stays within a set that has the first members and goes on
    module _ (P : X → Type 0) (goes_on : (x y : X) → P x → Has (next x) y → P y) where
      following_within : (found : List X) → ((x : X) → Has found x → P x) → (place : ℕ) (o : Option X) → slice_get found place ≡ o → (y : X) → Has (following same next o) y → P y
      following_within found within place None e y h = elim h [ ]
      following_within found within place (Some x) e y h = goes_on x y (within x (get_Has found place x e)) h

      turns_within : (turns place : ℕ) (found : List X) → ((x : X) → Has found x → P x) → (x : X) → Has (in_turn same next turns place found) x → P x
      turns_within zero place found within x h = within x h
      turns_within (suc turns) place found within x h = turns_within turns (suc place) (with_all same next found (following same next (slice_get found place)))
          (λ y k. elim (of_all found (following same next (slice_get found place)) y k) [ inl l ↦ within y l | inr r ↦ following_within found within place (slice_get found place) refl y r ]) x h

      reached_within : (count : ℕ) (from : List X) → ((x : X) → Has from x → P x) → (x : X) → Has (reached same next count from) x → P x
      reached_within count from within x h = turns_within count 0 (with_all same next [] from) (λ y k. elim (of_all [] from y k) [ inl l ↦ elim l [ ] | inr r ↦ within y r ]) x h

    turns_once : (turns place : ℕ) (found : List X) → AreOnce found → AreOnce (in_turn same next turns place found)
    turns_once zero place found o = o
    turns_once (suc turns) place found o = turns_once turns (suc place) _ (with_all-once found (following same next (slice_get found place)) o)

    pub reached_is_least : (every from : List X) → ((x : X) → Has from x → Has every x) → ((x y : X) → Has every x → Has (next x) y → Has every y) → IsLeast next from (reached same next (length every) from)
    reached_is_least every from within closed = record {
      begins = λ x h. among-Has _ x (in_turn-keeps same next (length every) 0 (with_all same next [] from) x (with_all-has same next itself [] from x h));
      goes_on = λ x y h k. let g = Has_get h in done (length every) 0 (with_all same next [] from) (λ j x l. absurd (omega arith)) g.0 x
          (let l = slice_get_within (reached same next (length every) from) g.0 x g.1 in
          let m = no_longer (reached same next (length every) from) every (turns_once (length every) 0 (with_all same next [] from) (with_all-once [] from tt)) (reached_within (Has every) closed (length every) from within) in
          omega (arith, l, m)) g.1 y k;
      is_least = λ other begins goes_on x h. reached_within (λ x. other x ≡ true) goes_on (length every) from begins x h;
    }
