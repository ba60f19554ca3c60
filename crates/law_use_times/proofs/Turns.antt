-- One turn more than there are families changes nothing: what is reached is then all that can be.
use Rattle.std.proofs.Common.{◌≡◌, ℕ, zero, suc, ◌+◌, ◌<◌, ◌≤◌, List, [], ◌∷◌, ◌++◌, length, Bool, true, false, if◌then◌else◌, not, cond, filter, refl, sym, ap, subst, ◌∙◌, ◌⊎◌, inl, inr, Option, Some, None, arith}
use Rattle.std.specs.List.{slice_get}
use Rattle.std.proofs.lemmas.Option.{slice_get_within}
use Rattle.std.proofs.lemmas.Bool.{cases_Bool}
use Rattle.law_lists.proofs.Booleans.{clash}
use Rattle.law_obligations.specs.Sets.{Has, first, later}
use Rattle.law_obligations.proofs.Members.{Has-uncons, Has-cases, any-found, any-some}
use Rattle.law_obligations.proofs.OneOfEach.{get_Has}
use Rattle.law_obligations.specs.Reached.{is_among, with_all, following, in_turn, reached, IsLeast}
use Rattle.law_obligations.proofs.Lookups.{Has-filter}
use Rattle.law_obligations.proofs.Least.{reached_is_least}

-- no member twice
abbrev AreOnce : {X : Type 0} → List X → Type 0
AreOnce [] = Unit {0}
AreOnce (x ∷ xs) = (Has xs x → ⊥) × AreOnce xs

once_more : {X : Type 0} (xs : List X) (x : X) → AreOnce xs → (Has xs x → ⊥) → AreOnce (xs ++ x ∷ [])
once_more [] x o n = ((λ h. elim h [ ]), tt)
once_more (y ∷ xs) x o n = ((λ h. elim (Has-cases xs (x ∷ []) h) [ inl l ↦ o.0 l | inr r ↦ elim (Has-uncons r) [ inl e ↦ n (subst (Has (y ∷ xs)) e first) | inr k ↦ elim k [ ] ] ]), once_more xs x o.1 (λ h. n (later h)))

module _ {X : Type 0} (same : X → X → Bool) (equal : (x y : X) → same x y ≡ true → x ≡ y) (itself : (x : X) → same x x ≡ true) where
  -- one member fewer
  abbrev without : X → List X → List X
  without x ys = filter (λ y. not (same x y)) ys

  few : (p : X → Bool) (ys : List X) → length (filter p ys) ≤ length ys
  few p [] = omega arith
  few p (y ∷ ys) = at (p y) (few p ys)
    where
      at : (b : Bool) → length (filter p ys) ≤ length ys → length (cond b (y ∷ filter p ys) (filter p ys)) ≤ suc (length ys)
      at true l = omega arith
      at false l = omega arith

  fewer : (x : X) (ys : List X) → Has ys x → length (without x ys) < length ys
  fewer x [] h = elim h [ ]
  fewer x (y ∷ ys) h = elim (cases_Bool (same x y)) [
    | inl e ↦ rw e (let l = few (λ y. not (same x y)) ys in omega (arith, l))
    | inr e ↦ rw e (let l = fewer x ys (elim (Has-uncons h) [ inl i ↦ absurd (clash (subst (λ z. same x z ≡ true) i (itself x)) e) | inr k ↦ k ]) in omega (arith, l))
  ]

  other : (x y : X) (xs : List X) → (Has xs x → ⊥) → Has xs y → not (same x y) ≡ true
  other x y xs n h = at (same x y) refl
    where
      at : (b : Bool) → same x y ≡ b → not b ≡ true
      at true e = absurd (n (subst (Has xs) (sym (equal x y e)) h))
      at false e = refl

  -- a list without repetition is no longer than one that has its members
  no_longer : (xs ys : List X) → AreOnce xs → ((x : X) → Has xs x → Has ys x) → length xs ≤ length ys
  no_longer [] ys o h = omega arith
  no_longer (x ∷ xs) ys o h =
      let l = no_longer xs (without x ys) o.1 (λ y k. Has-filter (λ y. not (same x y)) (h y (later k)) (other x y xs o.0 k)) in
      let m = fewer x ys (h x first) in
      omega (arith, l, m)

  -- one of a list, by the test
  has_if : (zs : List X) (y : X) → is_among same (λ z. []) zs y ≡ true → Has zs y
  has_if zs y e = let r = any-some (same y) zs e in subst (Has zs) (sym (equal y r.0 r.2)) r.1

  -- and where it is as long, it has all of them
  full : (xs ys : List X) → AreOnce xs → ((x : X) → Has xs x → Has ys x) → length ys ≤ length xs → (y : X) → Has ys y → Has xs y
  full xs ys o h long y k = at (cases_Bool (is_among same (λ z. []) xs y))
    where
      at : (is_among same (λ z. []) xs y ≡ true) ⊎ (is_among same (λ z. []) xs y ≡ false) → Has xs y
      at (inl e) = has_if xs y e
      at (inr e) =
          let absent : Has xs y → ⊥ = λ j. clash (any-found (same y) j (itself y)) e in
          let l = no_longer xs (without y ys) o (λ x j. Has-filter (λ z. not (same y z)) (h x j) (other y x xs absent j)) in
          let m = fewer y ys k in
          absurd (omega (arith, l, m, long))

  module _ (next : X → List X) where
    Has-among : (xs : List X) (x : X) → Has xs x → is_among same next xs x ≡ true
    Has-among xs x h = any-found (same x) h (itself x)

    with_one : (b : Bool) (found : List X) (x : X) → is_among same next found x ≡ b → AreOnce found → AreOnce (if b then found else found ++ x ∷ [])
    with_one true found x e o = o
    with_one false found x e o = once_more found x o (λ h. clash (Has-among found x h) e)

    with_all-once : (found xs : List X) → AreOnce found → AreOnce (with_all same next found xs)
    with_all-once found [] o = o
    with_all-once found (x ∷ xs) o = with_all-once (if is_among same next found x then found else found ++ x ∷ []) xs (with_one (is_among same next found x) found x refl o)

    turns_once : (turns place : ℕ) (found : List X) → AreOnce found → AreOnce (in_turn same next turns place found)
    turns_once zero place found o = o
    turns_once (suc turns) place found o = turns_once turns (suc place) _ (with_all-once found (following same next (slice_get found place)) o)

    of_one : (b : Bool) (found : List X) (x y : X) → Has (if b then found else found ++ x ∷ []) y → Has found y ⊎ (y ≡ x)
    of_one true found x y h = inl h
    of_one false found x y h = elim (Has-cases found (x ∷ []) h) [ inl l ↦ inl l | inr r ↦ elim (Has-uncons r) [ inl e ↦ inr e | inr k ↦ elim k [ ] ] ]

    of_all : (found xs : List X) (y : X) → Has (with_all same next found xs) y → Has found y ⊎ Has xs y
    of_all found [] y h = inl h
    of_all found (x ∷ xs) y h = elim (of_all (if is_among same next found x then found else found ++ x ∷ []) xs y h) [
      | inl l ↦ elim (of_one (is_among same next found x) found x y l) [ inl f ↦ inl f | inr e ↦ inr (subst (Has (x ∷ xs)) (sym e) first) ]
      | inr r ↦ inr (later r)
    ]

    -- members that are there are not put again
    nothing_new : (found xs : List X) → ((x : X) → Has xs x → Has found x) → with_all same next found xs ≡ found
    nothing_new found [] h = refl
    nothing_new found (x ∷ xs) h = ap (λ b. with_all same next (if b then found else found ++ x ∷ []) xs) (Has-among found x (h x first)) ∙ nothing_new found xs (λ y k. h y (later k))

    -- the last turn of all
    last_turn : (turns place : ℕ) (found : List X) → in_turn same next (suc turns) place found ≡ with_all same next (in_turn same next turns place found) (following same next (slice_get (in_turn same next turns place found) (turns + place)))
    last_turn zero place found = ap (λ n. with_all same next found (following same next (slice_get found n))) (let same_place : place ≡ 0 + place = omega arith in same_place)
    last_turn (suc turns) place found =
        last_turn turns (suc place) (with_all same next found (following same next (slice_get found place)))
        ∙ ap (λ n. with_all same next (in_turn same next (suc turns) place found) (following same next (slice_get (in_turn same next (suc turns) place found) n))) (let same_place : turns + suc place ≡ suc turns + place = omega arith in same_place)

    module _ (every from : List X) (within : (x : X) → Has from x → Has every x) (closed : (x y : X) → Has every x → Has (next x) y → Has every y) where
      following_within : (found : List X) → ((x : X) → Has found x → Has every x) → (place : ℕ) (o : Option X) → slice_get found place ≡ o → (y : X) → Has (following same next o) y → Has every y
      following_within found inside place None e y h = elim h [ ]
      following_within found inside place (Some x) e y h = closed x y (inside x (get_Has found place x e)) h

      turns_within : (turns place : ℕ) (found : List X) → ((x : X) → Has found x → Has every x) → (x : X) → Has (in_turn same next turns place found) x → Has every x
      turns_within zero place found inside x h = inside x h
      turns_within (suc turns) place found inside x h = turns_within turns (suc place) (with_all same next found (following same next (slice_get found place)))
          (λ y k. elim (of_all found (following same next (slice_get found place)) y k) [ inl l ↦ inside y l | inr r ↦ following_within found inside place (slice_get found place) refl y r ]) x h

      module _ (count : ℕ) (long : length every ≡ suc count) where
        inside : (x : X) → Has (reached same next count from) x → Has every x
        inside x h = turns_within count 0 (with_all same next [] from) (λ y k. elim (of_all [] from y k) [ inl l ↦ elim l [ ] | inr r ↦ within y r ]) x h

        no_more : (o : Option X) → slice_get (reached same next count from) (count + 0) ≡ o → with_all same next (reached same next count from) (following same next o) ≡ reached same next count from
        no_more None e = refl
        no_more (Some x) e =
            let l = slice_get_within (reached same next count from) (count + 0) x e in
            nothing_new (reached same next count from) (next x)
            (λ y h. full (reached same next count from) every (turns_once count 0 (with_all same next [] from) (with_all-once [] from tt)) inside (omega (arith, l, long)) y
            (closed x y (inside x (get_Has (reached same next count from) (count + 0) x e)) h))

        pub reached_with_one_less : IsLeast next from (reached same next count from)
        reached_with_one_less = subst (IsLeast next from)
            (last_turn count 0 (with_all same next [] from) ∙ no_more (slice_get (reached same next count from) (count + 0)) refl)
            (subst (λ n. IsLeast next from (reached same next n from)) long (reached_is_least same equal itself next every from within closed))
