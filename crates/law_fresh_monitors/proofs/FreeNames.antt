-- Free names are as many as are asked for, differ from each other, and are not used.
use Rattle.std.proofs.Common.{◌≡◌, ◌≤◌, ◌<◌, ◌+◌, ◌^◌, ℕ, zero, suc, List, [], ◌∷◌, map, filter, take, drop, length, Bool, true, false, not, ◌||◌, cond, refl, sym, ap, ◌∙◌, subst, arith, true≢false}
use Rattle.std.specs.Str.{bytes_eq}
use Rattle.std.specs.List.{AllByRecursion, list_any}
use Rattle.std.specs.Fmt.{decimal}
use Rattle.std.proofs.lemmas.Bool.{or_from, or_parts}
use Rattle.std.proofs.lemmas.Fmt.{decimal_injective}
use Rattle.std.proofs.lemmas.List.{length-take-le}
use Rattle.std.proofs.lemmas.Slice.Eq.{bytes_eq-Decides}
use Rattle.law_lists.proofs.Lists.{filter_few, length_map}
use Rattle.smv_core.specs.Values.{Name, numbers_from}
use Rattle.law_formulas.specs.Monitors.{numbered}
use Rattle.law_formula_trees.specs.Behind.{AreApart}
use Rattle.law_fresh_monitors.specs.Laws.{FreeNamesAreFree}

-- ---- names

differ : (a b : Name) → (a ≡ b → ⊥) → bytes_eq a b ≡ false
differ a b other = by_test (bytes_eq a b) refl
  where
    by_test : (t : Bool) → bytes_eq a b ≡ t → t ≡ false
    by_test false e = refl
    by_test true e = absurd (other ((bytes_eq-Decides a b).0 e))

turned : (a b : Name) → bytes_eq a b ≡ false → bytes_eq b a ≡ false
turned a b h = differ b a (λ e. absurd (true≢false (sym ((bytes_eq-Decides a b).1 (sym e)) ∙ h)))

-- ---- lists of which some are left out

none-filtered : (q p : Name → Bool) (xs : List Name) → list_any q xs ≡ false → list_any q (filter p xs) ≡ false
none-filtered q p [] h = refl
none-filtered q p (x ∷ xs) h = let r = or_parts (q x) (list_any q xs) h in by_test (p x) (none-filtered q p xs r.1) r.0
  where
    by_test : (b : Bool) → list_any q (filter p xs) ≡ false → q x ≡ false → list_any q (cond b (x ∷ filter p xs) (filter p xs)) ≡ false
    by_test true rest own = or_from (q x) (list_any q (filter p xs)) own rest
    by_test false rest own = rest

apart-filtered : (p : Name → Bool) (xs : List Name) → AreApart xs → AreApart (filter p xs)
apart-filtered p [] h = tt
apart-filtered p (x ∷ xs) h = by_test (p x) (apart-filtered p xs h.1)
  where
    by_test : (b : Bool) → AreApart (filter p xs) → AreApart (cond b (x ∷ filter p xs) (filter p xs))
    by_test true rest = (none-filtered (bytes_eq x) p xs h.0, rest)
    by_test false rest = rest

none-taken : (q : Name → Bool) (k : ℕ) (xs : List Name) → list_any q xs ≡ false → list_any q (take k xs) ≡ false
none-taken q zero xs h = refl
none-taken q (suc k) [] h = refl
none-taken q (suc k) (x ∷ xs) h = let r = or_parts (q x) (list_any q xs) h in or_from (q x) (list_any q (take k xs)) r.0 (none-taken q k xs r.1)

pub apart-taken : (k : ℕ) (xs : List Name) → AreApart xs → AreApart (take k xs)
apart-taken zero xs h = tt
apart-taken (suc k) [] h = tt
apart-taken (suc k) (x ∷ xs) h = (none-taken (bytes_eq x) k xs h.0, apart-taken k xs h.1)

pub each-taken : {X : Type 0} (P : X → Type 0) (k : ℕ) (xs : List X) → AllByRecursion P xs → AllByRecursion P (take k xs)
each-taken P zero xs h = tt
each-taken P (suc k) [] h = tt
each-taken P (suc k) (x ∷ xs) h = (h.0, each-taken P k xs h.1)

-- ---- numbered names differ

numbered-differ : (m n : ℕ) → m < n → n < 2 ^ 64 → bytes_eq (numbered m) (numbered n) ≡ false
numbered-differ m n lt small = differ (numbered m) (numbered n) apart
  where
    apart : numbered m ≡ numbered n → ⊥
    apart e =
        let same : decimal m ≡ decimal n = ap (drop 1) e in
        let number : m ≡ n = decimal_injective m n (omega (arith, lt, small)) small same in
        omega (arith, number, lt)

none-numbered : (m from count : ℕ) → m < from → from + count < 2 ^ 64 → list_any (bytes_eq (numbered m)) (map numbered (numbers_from from count)) ≡ false
none-numbered m from zero lt small = refl
none-numbered m from (suc count) lt small = or_from _ _ (numbered-differ m from lt (omega (arith, small))) (none-numbered m (from + 1) count (omega (arith, lt)) (omega (arith, small)))

numbered-apart : (from count : ℕ) → from + count < 2 ^ 64 → AreApart (map numbered (numbers_from from count))
numbered-apart from zero small = tt
numbered-apart from (suc count) small = (none-numbered from (from + 1) count (omega arith) (omega (arith, small)), numbered-apart (from + 1) count (omega (arith, small)))

count-numbers : (from count : ℕ) → length (numbers_from from count) ≡ count
count-numbers from zero = refl
count-numbers from (suc count) = ap suc (count-numbers (from + 1) count)

-- ---- there are enough

abbrev without : Name → List Name → List Name
without x used = filter (λ u. not (bytes_eq x u)) used

abbrev unused : List Name → List Name → List Name
unused used xs = filter (λ n. not (list_any (bytes_eq n) used)) xs

fewer : (x : Name) (used : List Name) → list_any (bytes_eq x) used ≡ true → length (without x used) < length used
fewer x [] h = absurd (true≢false (sym h))
fewer x (u ∷ used) h = by_test (bytes_eq x u) h (fewer x used) (filter_few (λ v. not (bytes_eq x v)) used)
  where
    by_test : (b : Bool) → b || list_any (bytes_eq x) used ≡ true → (list_any (bytes_eq x) used ≡ true → length (without x used) < length used) → length (without x used) ≤ length used →
        length (cond (not b) (u ∷ without x used) (without x used)) < suc (length used)
    by_test true e rest few = omega (arith, few)
    by_test false e rest few = let r = rest e in omega (arith, r)

-- another name is used as well without this one
still : (x n : Name) → bytes_eq n x ≡ false → (used : List Name) → list_any (bytes_eq n) (without x used) ≡ list_any (bytes_eq n) used
still x n other [] = refl
still x n other (u ∷ used) = by_test (bytes_eq x u) refl (still x n other used)
  where
    by_test : (b : Bool) → bytes_eq x u ≡ b → list_any (bytes_eq n) (without x used) ≡ list_any (bytes_eq n) used →
        list_any (bytes_eq n) (cond (not b) (u ∷ without x used) (without x used)) ≡ bytes_eq n u || list_any (bytes_eq n) used
    by_test true e rest = rest ∙ sym (ap (λ t. t || list_any (bytes_eq n) used) (ap (bytes_eq n) (sym ((bytes_eq-Decides x u).0 e)) ∙ other))
    by_test false e rest = ap (λ t. bytes_eq n u || t) rest

unused-same : (x : Name) (used xs : List Name) → list_any (bytes_eq x) xs ≡ false → unused (without x used) xs ≡ unused used xs
unused-same x used [] h = refl
unused-same x used (n ∷ xs) h =
    let r = or_parts (bytes_eq x n) (list_any (bytes_eq x) xs) h in
    ap (λ b. cond (not b) (n ∷ unused (without x used) xs) (unused (without x used) xs)) (still x n (turned x n r.0) used)
    ∙ ap (λ l. cond (not (list_any (bytes_eq n) used)) (n ∷ l) l) (unused-same x used xs r.1)

enough : (xs used : List Name) → AreApart xs → length xs ≤ length (unused used xs) + length used
enough [] used apart = omega arith
enough (x ∷ xs) used apart = by_test (list_any (bytes_eq x) used) refl (enough xs)
  where
    by_test : (b : Bool) → list_any (bytes_eq x) used ≡ b → ((others : List Name) → AreApart xs → length xs ≤ length (unused others xs) + length others) →
        suc (length xs) ≤ length (cond (not b) (x ∷ unused used xs) (unused used xs)) + length used
    by_test false e rest = let r = rest used apart.1 in omega (arith, r)
    by_test true e rest =
        let few = fewer x used e in
        let r = subst (λ l. length xs ≤ length l + length (without x used)) (unused-same x used xs apart.0) (rest (without x used) apart.1) in
        omega (arith, r, few)

-- ---- the names

not-used : (used xs : List Name) → AllByRecursion (λ n. list_any (bytes_eq n) used ≡ false) (unused used xs)
not-used used [] = tt
not-used used (x ∷ xs) = by_test (list_any (bytes_eq x) used) refl (not-used used xs)
  where
    by_test : (b : Bool) → list_any (bytes_eq x) used ≡ b → AllByRecursion (λ n. list_any (bytes_eq n) used ≡ false) (unused used xs) → AllByRecursion (λ n. list_any (bytes_eq n) used ≡ false) (cond (not b) (x ∷ unused used xs) (unused used xs))
    by_test true e rest = rest
    by_test false e rest = (e, rest)

pub free : FreeNamesAreFree
free used count small =
    let all : List Name = map numbered (numbers_from 0 (count + length used)) in
    let apart : AreApart all = numbered-apart 0 (count + length used) (omega (arith, small)) in
    let long : length all ≡ count + length used = length_map numbered (numbers_from 0 (count + length used)) ∙ count-numbers 0 (count + length used) in
    let some = enough all used apart in (
      length-take-le count (unused used all) (omega (arith, some, long)),
      apart-taken count (unused used all) (apart-filtered (λ n. not (list_any (bytes_eq n) used)) all apart),
      each-taken (λ n. list_any (bytes_eq n) used ≡ false) count (unused used all) (not-used used all),
    )
