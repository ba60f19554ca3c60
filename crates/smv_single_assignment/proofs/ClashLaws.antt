-- The places of clashes: in whatever order they are listed, the first is the same.
use Rattle.std.proofs.Common.{◌≡◌, ℕ, List, [], ◌∷◌, ◌++◌, map, filter, Bool, true, false, cond, ◌&&◌, ◌||◌, refl, ap, sym, ◌∙◌, arith}
use Rattle.std.specs.Prelude.{Option, Some, None}
use Rattle.std.specs.List.{flat_map, list_any}
use Rattle.std.proofs.lemmas.List.{append-nil}
use Rattle.std.proofs.lemmas.List.Concat.{flat_map-append}
use Rattle.smv_mentions.specs.Scopes.{first_of_places}
use Rattle.smv_first_fault.specs.Firsts.{least}
use Rattle.smv_first_fault.proofs.LeastLaws.{first-none, first-assoc, least-append}
use Rattle.law_designs.specs.Standing.{Standing}
use Rattle.law_designs.specs.SingleFaults.{later_places, cross, meet, mixed, are_mixed}
use Rattle.smv_single_assignment.specs.Held.{among}

pub first-comm : (a b : Option ℕ) → first_of_places a b ≡ first_of_places b a
first-comm None None = refl
first-comm None (Some y) = refl
first-comm (Some x) None = refl
first-comm (Some x) (Some y) = ap Some (omega arith)

first-swap : (a b c : Option ℕ) → first_of_places a (first_of_places b c) ≡ first_of_places b (first_of_places a c)
first-swap a b c = sym (first-assoc a b c) ∙ ap (λ o. first_of_places o c) (first-comm a b) ∙ first-assoc b a c

first-pairs : (a b c d : Option ℕ) → first_of_places (first_of_places a b) (first_of_places c d) ≡ first_of_places (first_of_places a c) (first_of_places b d)
first-pairs a b c d = first-assoc a b (first_of_places c d) ∙ ap (first_of_places a) (first-swap b c d) ∙ sym (first-assoc a c (first_of_places b d))

-- the place of an assignment, where the test says so
abbrev pub at_if : Bool → Standing → Option ℕ
at_if test b = cond test (Some b.at) None

module _ (clash : Standing → Standing → Bool) where
  abbrev of_one : Standing → List Standing → List ℕ
  of_one a later = map (λ (b : Standing). b.at) (filter (clash a) later)

  abbrev pub any_before : List Standing → Standing → Bool
  any_before earlier b = list_any (λ a. clash a b) earlier

  -- the places of the later ones that clash with any earlier one
  abbrev pub clashing : List Standing → List Standing → List ℕ
  clashing earlier later = map (λ (b : Standing). b.at) (filter (any_before earlier) later)

  one-append : (a : Standing) (ys zs : List Standing) → of_one a (ys ++ zs) ≡ of_one a ys ++ of_one a zs
  one-append a [] zs = refl
  one-append a (y ∷ ys) zs = by (clash a y) (one-append a ys zs)
    where
      by : (t : Bool) → of_one a (ys ++ zs) ≡ of_one a ys ++ of_one a zs → map (λ (b : Standing). b.at) (cond t (y ∷ filter (clash a) (ys ++ zs)) (filter (clash a) (ys ++ zs))) ≡ map (λ (b : Standing). b.at) (cond t (y ∷ filter (clash a) ys) (filter (clash a) ys)) ++ of_one a zs
      by true rest = ap (λ l. y.at ∷ l) rest
      by false rest = rest

  later-nothing : (xs : List Standing) → later_places clash xs [] ≡ []
  later-nothing [] = refl
  later-nothing (a ∷ xs) = later-nothing xs

  pub later-append : (xs ys zs : List Standing) → later_places clash (xs ++ ys) zs ≡ later_places clash xs zs ++ later_places clash ys zs
  later-append xs ys zs = flat_map-append (λ a. of_one a zs) xs ys

  pub later-both : (xs ys zs : List Standing) → least (later_places clash xs (ys ++ zs)) ≡ first_of_places (least (later_places clash xs ys)) (least (later_places clash xs zs))
  later-both [] ys zs = refl
  later-both (a ∷ xs) ys zs =
      ap (λ l. least (l ++ later_places clash xs (ys ++ zs))) (one-append a ys zs)
      ∙ least-append (of_one a ys ++ of_one a zs) (later_places clash xs (ys ++ zs))
      ∙ ap (λ o. first_of_places o (least (later_places clash xs (ys ++ zs)))) (least-append (of_one a ys) (of_one a zs))
      ∙ ap (first_of_places (first_of_places (least (of_one a ys)) (least (of_one a zs)))) (later-both xs ys zs)
      ∙ first-pairs (least (of_one a ys)) (least (of_one a zs)) (least (later_places clash xs ys)) (least (later_places clash xs zs))
      ∙ ap (λ o. first_of_places o (first_of_places (least (of_one a zs)) (least (later_places clash xs zs)))) (sym (least-append (of_one a ys) (later_places clash xs ys)))
      ∙ ap (first_of_places (least (of_one a ys ++ later_places clash xs ys))) (sym (least-append (of_one a zs) (later_places clash xs zs)))

  same-twice : (t u : Bool) (b : Standing) → first_of_places (at_if t b) (at_if u b) ≡ at_if (t || u) b
  same-twice true true b = ap Some (omega arith)
  same-twice true false b = refl
  same-twice false u b = refl

  one-least : (a b : Standing) → least (of_one a (b ∷ [])) ≡ at_if (clash a b) b
  one-least a b = by (clash a b)
    where
      by : (t : Bool) → least (map (λ (c : Standing). c.at) (cond t (b ∷ []) [])) ≡ at_if t b
      by true = refl
      by false = refl

  -- one later assignment
  pub later-one : (xs : List Standing) (b : Standing) → least (later_places clash xs (b ∷ [])) ≡ at_if (any_before xs b) b
  later-one [] b = refl
  later-one (a ∷ xs) b =
      least-append (of_one a (b ∷ [])) (later_places clash xs (b ∷ []))
      ∙ ap (λ o. first_of_places o (least (later_places clash xs (b ∷ [])))) (one-least a b)
      ∙ ap (first_of_places (at_if (clash a b) b)) (later-one xs b)
      ∙ same-twice (clash a b) (any_before xs b) b

  -- one more part
  pub among-more : {A : Type 0} (inside : A → List ℕ) (assigned : A → List Standing) (xs : List A) (x : A)
      → least (among clash inside assigned (xs ++ x ∷ [])) ≡ first_of_places (least (among clash inside assigned xs)) (first_of_places (least (inside x)) (least (later_places clash (flat_map assigned xs) (assigned x))))
  among-more inside assigned [] x =
      ap (λ l. least ((inside x ++ []) ++ l)) (later-nothing (assigned x)) ∙ ap least (append-nil (inside x ++ []) ∙ append-nil (inside x)) ∙ sym (first-none (least (inside x)))
  among-more {A} inside assigned (y ∷ xs) x =
      let iy : Option ℕ = least (inside y) in
      let m : Option ℕ = least (among clash inside assigned xs) in
      let ix : Option ℕ = least (inside x) in
      let l1 : Option ℕ = least (later_places clash (flat_map assigned xs) (assigned x)) in
      let lyxs : Option ℕ = least (later_places clash (assigned y) (flat_map assigned xs)) in
      let lyx : Option ℕ = least (later_places clash (assigned y) (assigned x)) in
      let all : List Standing = flat_map assigned (xs ++ x ∷ []) in
      let split : all ≡ flat_map assigned xs ++ assigned x = flat_map-append assigned xs (x ∷ []) ∙ ap (λ l. flat_map assigned xs ++ l) (append-nil (assigned x)) in
      let across : least (later_places clash (assigned y) all) ≡ first_of_places lyxs lyx = ap (λ l. least (later_places clash (assigned y) l)) split ∙ later-both (assigned y) (flat_map assigned xs) (assigned x) in
      let left : least ((inside y ++ among clash inside assigned (xs ++ x ∷ [])) ++ later_places clash (assigned y) all) ≡ first_of_places (first_of_places iy (first_of_places m (first_of_places ix l1))) (first_of_places lyxs lyx) =
      least-append (inside y ++ among clash inside assigned (xs ++ x ∷ [])) (later_places clash (assigned y) all)
      ∙ ap (λ o. first_of_places o (least (later_places clash (assigned y) all))) (least-append (inside y) (among clash inside assigned (xs ++ x ∷ [])))
      ∙ ap (λ o. first_of_places (first_of_places iy o) (least (later_places clash (assigned y) all))) (among-more inside assigned xs x)
      ∙ ap (λ o. first_of_places (first_of_places iy (first_of_places m (first_of_places ix l1))) o) across in
      let first : least ((inside y ++ among clash inside assigned xs) ++ later_places clash (assigned y) (flat_map assigned xs)) ≡ first_of_places (first_of_places iy m) lyxs =
      least-append (inside y ++ among clash inside assigned xs) (later_places clash (assigned y) (flat_map assigned xs))
      ∙ ap (λ o. first_of_places o lyxs) (least-append (inside y) (among clash inside assigned xs)) in
      let second : least (later_places clash (assigned y ++ flat_map assigned xs) (assigned x)) ≡ first_of_places lyx l1 =
      ap least (later-append (assigned y) (flat_map assigned xs) (assigned x)) ∙ least-append (later_places clash (assigned y) (assigned x)) (later_places clash (flat_map assigned xs) (assigned x)) in
      left
      ∙ first-assoc iy (first_of_places m (first_of_places ix l1)) (first_of_places lyxs lyx)
      ∙ ap (first_of_places iy) (first-assoc m (first_of_places ix l1) (first_of_places lyxs lyx)
      ∙ ap (first_of_places m) (first-assoc ix l1 (first_of_places lyxs lyx)
      ∙ ap (first_of_places ix) (first-comm l1 (first_of_places lyxs lyx) ∙ first-assoc lyxs lyx l1)
      ∙ first-swap ix lyxs (first_of_places lyx l1)))
      ∙ sym (first-assoc iy m (first_of_places lyxs (first_of_places ix (first_of_places lyx l1))))
      ∙ sym (first-assoc (first_of_places iy m) lyxs (first_of_places ix (first_of_places lyx l1)))
      ∙ ap (λ o. first_of_places o (first_of_places ix (first_of_places lyx l1))) (sym first)
      ∙ ap (λ o. first_of_places (least ((inside y ++ among clash inside assigned xs) ++ later_places clash (assigned y) (flat_map assigned xs))) (first_of_places ix o)) (sym second)

-- what shares all of no variables does not cross
and-false : (b : Bool) → (b && false) ≡ false
and-false true = refl
and-false false = refl

filter-none : (xs : List Standing) (a : Standing) → map (λ (b : Standing). b.at) (filter (cross [] a) xs) ≡ []
filter-none [] a = refl
filter-none (b ∷ xs) a = ap (λ t. map (λ (c : Standing). c.at) (cond t (b ∷ filter (cross [] a) xs) (filter (cross [] a) xs))) (and-false (meet a b)) ∙ filter-none xs a

pub cross-none : (xs ys : List Standing) → later_places (cross []) xs ys ≡ []
cross-none [] ys = refl
cross-none (a ∷ xs) ys = ap (λ l. l ++ later_places (cross []) xs ys) (filter-none ys a) ∙ cross-none xs ys

-- the assignments one by one
pub each-alone : (xs : List Standing) → flat_map (λ a. a ∷ []) xs ≡ xs
each-alone [] = refl
each-alone (x ∷ xs) = ap (λ l. x ∷ l) (each-alone xs)

abbrev pub nothing_inside : Standing → List ℕ
nothing_inside a = []

abbrev pub alone : Standing → List Standing
alone a = a ∷ []

pub mixed-among : (xs : List Standing) → least (mixed xs) ≡ least (among are_mixed nothing_inside alone xs)
mixed-among [] = refl
mixed-among (a ∷ xs) =
    let here : List ℕ = later_places are_mixed (a ∷ []) xs in
    least-append here (mixed xs) ∙ first-comm (least here) (least (mixed xs)) ∙ ap (λ o. first_of_places o (least here)) (mixed-among xs)
    ∙ sym (least-append (among are_mixed nothing_inside alone xs) here) ∙ ap (λ l. least (among are_mixed nothing_inside alone xs ++ later_places are_mixed (a ∷ []) l)) (sym (each-alone xs))
