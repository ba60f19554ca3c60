-- Links to earlier assignments, and parts of the list of assignments.
use Rattle.std.proofs.Common.{◌≡◌, ◌≤◌, ◌<◌, ℕ, zero, suc, ◌+◌, ◌-◌, List, [], ◌∷◌, ◌++◌, map, length, get_or, take, drop, set, Bool, true, false, cond, ◌||◌, refl, ap, sym, ◌∙◌, arith, subst, ◌⊎◌, inl, inr, get_or-set_other, get_or-set_same, length-append}
use Rattle.std.specs.Prelude.{Some, slice_get}
use Rattle.std.specs.List.{flat_map, list_any}
use Rattle.std.proofs.lemmas.Bool.{cases_eq}
use Rattle.std.proofs.lemmas.List.{append-nil, append_assoc, take-append-drop, get_or_append_left}
use Rattle.std.proofs.Math.Seq.{drop-append_seam, take-append_seam, get_or-append_seam}
use Rattle.smv_core.specs.Walk.{same_kind}
use Rattle.smv_core.specs.declared.tree.Kind.{Kind}
use Rattle.law_designs.specs.Standing.{Standing}
use Rattle.smv_single_assignment.specs.declared.assignments.Assignment.{Assignment}
use Rattle.smv_single_assignment.specs.Held.{standing_of}
use Rattle.smv_single_assignment.specs.Links.{IsBehind, StandsAt, between}

-- ---- what is held at a place

pub held-at : (xs : List Assignment) (i : ℕ) (x : Assignment) → i < length xs → x ≡ get_or xs i x → slice_get (map standing_of xs) i ≡ Some (standing_of x)
held-at [] i x lt is = absurd (omega arith)
held-at (y ∷ xs) zero x lt is = ap (λ a. Some (standing_of a)) (sym is)
held-at (y ∷ xs) (suc i) x lt is = held-at xs i x (omega arith) is

pub held-length : (xs : List Assignment) → length (map standing_of xs) ≡ length xs
held-length [] = refl
held-length (x ∷ xs) = ap suc (held-length xs)

pub got-same : {A : Type 0} (xs : List A) (i : ℕ) (a b : A) → slice_get xs i ≡ Some a → slice_get xs i ≡ Some b → a ≡ b
got-same xs i a b got also = cc

-- ---- the end of the last one of a class

module _ (all : List Standing) (classes : List ℕ) (kind : Kind) where
  pub behind-none : (class : ℕ) → IsBehind all classes kind class 0 0
  behind-none class = record { before = omega arith; here = λ h. absurd (omega (arith, h)); of_kind = λ h a got. absurd (omega (arith, h)); last = λ k a got h lt is. absurd (omega (arith, lt)) }

  behind-here : (class place : ℕ) (b : Standing) → slice_get all place ≡ Some b → same_kind b.kind kind ≡ true → get_or classes place 0 ≡ class → IsBehind all classes kind class (place + 1) (place + 1)
  behind-here class place b there of is =
      let back : place + 1 - 1 ≡ place = omega arith in
      record { before = omega arith; here = λ h. ap (λ i. get_or classes i 0) back ∙ is; of_kind = λ h a got. ap (λ (x : Standing). same_kind x.kind kind) (got-same all place a b (ap (slice_get all) (sym back) ∙ got) there) ∙ of; last = λ k a got h lt same. absurd (omega (arith, h, lt)) }

  behind-kept : (class place end : ℕ) (b : Standing) → slice_get all place ≡ Some b → (get_or classes place 0 ≡ class → same_kind b.kind kind ≡ false) → IsBehind all classes kind class place end
      → IsBehind all classes kind class (place + 1) end
  behind-kept class place end b here apart behind = record {
    before = omega (arith, behind.before);
    here = behind.here;
    of_kind = behind.of_kind;
    last = λ k a got h lt same. by k a got h lt same (cases_eq k place);
  }
    where
      by : (k : ℕ) (a : Standing) → slice_get all k ≡ Some a → end ≤ k → k < place + 1 → get_or classes k 0 ≡ class → (k ≡ place) ⊎ (k ≡ place → ⊥) → same_kind a.kind kind ≡ false
      by k a got h lt same (inl is) =
          let it : b ≡ a = got-same all place b a here (ap (slice_get all) (sym is) ∙ got) in
          ap (λ (x : Standing). same_kind x.kind kind) (sym it) ∙ apart (ap (λ i. get_or classes i 0) (sym is) ∙ same)
      by k a got h lt same (inr not) = behind.last k a got h (omega (arith, lt, not)) same

  -- one more place
  pub behind-next : (ends : List ℕ) (place : ℕ) (b : Standing) (class : ℕ) → get_or classes place 0 < length ends → slice_get all place ≡ Some b
      → IsBehind all classes kind class place (get_or ends class 0)
      → IsBehind all classes kind class (place + 1) (get_or (set ends (get_or classes place 0) (cond (same_kind b.kind kind) (place + 1) (get_or ends (get_or classes place 0) 0))) class 0)
  behind-next ends place b class below here behind = by (cases_eq class (get_or classes place 0)) (same_kind b.kind kind) refl
    where
      by : (class ≡ get_or classes place 0) ⊎ (class ≡ get_or classes place 0 → ⊥) → (t : Bool) → same_kind b.kind kind ≡ t → IsBehind all classes kind class (place + 1) (get_or (set ends (get_or classes place 0) (cond t (place + 1) (get_or ends (get_or classes place 0) 0))) class 0)
      by (inl is) true k = subst (IsBehind all classes kind class (place + 1)) (sym (ap (λ c. get_or (set ends (get_or classes place 0) (place + 1)) c 0) is ∙ get_or-set_same ends (get_or classes place 0) (place + 1) 0 below)) (behind-here class place b here k (sym is))
      by (inl is) false k = subst (IsBehind all classes kind class (place + 1)) (ap (λ c. get_or ends c 0) is ∙ sym (ap (λ c. get_or (set ends (get_or classes place 0) (get_or ends (get_or classes place 0) 0)) c 0) is ∙ get_or-set_same ends (get_or classes place 0) (get_or ends (get_or classes place 0) 0) 0 below)) (behind-kept class place (get_or ends class 0) b here (λ same. k) behind)
      by (inr not) t k = subst (IsBehind all classes kind class (place + 1)) (sym (get_or-set_other ends (get_or classes place 0) class (cond t (place + 1) (get_or ends (get_or classes place 0) 0)) 0 not)) (behind-kept class place (get_or ends class 0) b here (λ same. absurd (not (sym same))) behind)

-- ---- parts of a list

or-true : (b : Bool) → (b || true) ≡ true
or-true true = refl
or-true false = refl

module _ {A : Type 0} (p : A → Bool) where
  part-true : (n : ℕ) (xs : List A) (k : ℕ) (a : A) → slice_get xs k ≡ Some a → k < n → p a ≡ true → list_any p (take n xs) ≡ true
  part-true n [] k a got lt hit = cc
  part-true zero (x ∷ xs) k a got lt hit = absurd (omega arith)
  part-true (suc n) (x ∷ xs) zero a got lt hit = let it : x ≡ a = cc in ap (λ b. b || list_any p (take n xs)) (ap p it ∙ hit)
  part-true (suc n) (x ∷ xs) (suc k) a got lt hit = ap (λ b. p x || b) (part-true n xs k a got (omega arith) hit) ∙ or-true (p x)

  part-false : (n : ℕ) (xs : List A) → ((k : ℕ) (a : A) → slice_get xs k ≡ Some a → k < n → p a ≡ false) → list_any p (take n xs) ≡ false
  part-false zero [] miss = refl
  part-false (suc n) [] miss = refl
  part-false zero (x ∷ xs) miss = refl
  part-false (suc n) (x ∷ xs) miss = ap (λ b. b || list_any p (take n xs)) (miss zero x refl (omega arith)) ∙ part-false n xs (λ k a got lt. miss (suc k) a got (omega (arith, lt)))

  any-true : (s n : ℕ) (xs : List A) (k : ℕ) (a : A) → slice_get xs k ≡ Some a → s ≤ k → k < s + n → p a ≡ true → list_any p (take n (drop s xs)) ≡ true
  any-true zero n xs k a got le lt hit = part-true n xs k a got (omega arith) hit
  any-true (suc s) n [] k a got le lt hit = cc
  any-true (suc s) n (x ∷ xs) zero a got le lt hit = absurd (omega arith)
  any-true (suc s) n (x ∷ xs) (suc k) a got le lt hit = any-true s n xs k a got (omega arith) (omega arith) hit

  any-false : (s n : ℕ) (xs : List A) → ((k : ℕ) (a : A) → slice_get xs k ≡ Some a → s ≤ k → k < s + n → p a ≡ false) → list_any p (take n (drop s xs)) ≡ false
  any-false zero n xs miss = part-false n xs (λ k a got lt. miss k a got (omega arith) (omega (arith, lt)))
  any-false (suc s) zero [] miss = refl
  any-false (suc s) (suc n) [] miss = refl
  any-false (suc s) n (x ∷ xs) miss = any-false s n xs (λ k a got le lt. miss (suc k) a got (omega (arith, le)) (omega (arith, lt)))

  pub between-true : (s m : ℕ) (xs : List A) (k : ℕ) (a : A) → slice_get xs k ≡ Some a → s ≤ k → k < m → p a ≡ true → list_any p (between s m xs) ≡ true
  between-true s m xs k a got le lt hit = any-true s (m - s) xs k a got le (omega arith) hit

  pub between-false : (s m : ℕ) (xs : List A) → ((k : ℕ) (a : A) → slice_get xs k ≡ Some a → s ≤ k → k < m → p a ≡ false) → list_any p (between s m xs) ≡ false
  between-false s m xs miss = any-false s (m - s) xs (λ k a got le lt. miss k a got le (omega (arith, le, lt)))

-- one more at the end of a part
pub between-more : {A : Type 0} (s e : ℕ) (xs : List A) (x : A) → slice_get xs e ≡ Some x → s ≤ e → between s (e + 1) xs ≡ between s e xs ++ x ∷ []
between-more s e xs x got le =
    let many : e + 1 - s ≡ suc (e - s) = omega arith in
    let back : s + (e - s) ≡ e = omega arith in
    ap (λ n. take n (drop s xs)) many ∙ more s (e - s) xs x (ap (slice_get xs) back ∙ got)
  where
    here : {A : Type 0} (n : ℕ) (xs : List A) (x : A) → slice_get xs n ≡ Some x → take (suc n) xs ≡ take n xs ++ x ∷ []
    here n [] x got = cc
    here zero (y ∷ xs) x got = let it : y ≡ x = cc in ap (λ z. z ∷ []) it
    here (suc n) (y ∷ xs) x got = ap (λ l. y ∷ l) (here n xs x got)

    more : {A : Type 0} (s n : ℕ) (xs : List A) (x : A) → slice_get xs (s + n) ≡ Some x → take (suc n) (drop s xs) ≡ take n (drop s xs) ++ x ∷ []
    more s n [] x got = cc
    more zero n (y ∷ xs) x got = let back : 0 + n ≡ n = omega arith in here n (y ∷ xs) x (ap (slice_get (y ∷ xs)) (sym back) ∙ got)
    more (suc s) n (y ∷ xs) x got = let back : suc (s + n) ≡ suc s + n = omega arith in more s n xs x (ap (slice_get (y ∷ xs)) back ∙ got)

-- ---- where assignments stand

module _ (all : List Standing) where
  from-there : (start : ℕ) (xs : List Standing) → StandsAt all start xs → drop start all ≡ xs ++ drop (length xs) (drop start all)
  from-there start xs stands = sym (take-append-drop (length xs) (drop start all)) ∙ ap (λ l. l ++ drop (length xs) (drop start all)) stands.are

  pub stands-left : (start : ℕ) (xs ys : List Standing) → StandsAt all start (xs ++ ys) → StandsAt all start xs
  stands-left start xs ys stands =
      let rest : List Standing = drop (length (xs ++ ys)) (drop start all) in
      let there : drop start all ≡ xs ++ (ys ++ rest) = from-there start (xs ++ ys) stands ∙ append_assoc xs ys rest in
      record { within = omega (arith, stands.within, length-append {A = Standing} xs ys); are = ap (take (length xs)) there ∙ take-append_seam xs (ys ++ rest) }

  pub stands-right : (start : ℕ) (xs ys : List Standing) → StandsAt all start (xs ++ ys) → StandsAt all (start + length xs) ys
  stands-right start xs ys stands =
      let rest : List Standing = drop (length (xs ++ ys)) (drop start all) in
      let there : drop start all ≡ xs ++ (ys ++ rest) = from-there start (xs ++ ys) stands ∙ append_assoc xs ys rest in
      let here : drop (start + length xs) all ≡ ys ++ rest = dropped start (length xs) all ∙ ap (drop (length xs)) there ∙ drop-append_seam xs (ys ++ rest) in
      record { within = omega (arith, stands.within, length-append {A = Standing} xs ys); are = ap (take (length ys)) here ∙ take-append_seam ys rest }
    where
      dropped : (m n : ℕ) (l : List Standing) → drop (m + n) l ≡ drop n (drop m l)
      dropped zero n l = let none : 0 + n ≡ n = omega arith in ap (λ k. drop k l) none
      dropped (suc m) zero [] = let some : suc m + 0 ≡ suc m = omega arith in ap (λ k. drop k []) some
      dropped (suc m) (suc n) [] = let some : suc m + suc n ≡ suc (m + suc n) = omega arith in ap (λ k. drop k []) some
      dropped (suc m) n (x ∷ l) = let some : suc m + n ≡ suc (m + n) = omega arith in ap (λ k. drop k (x ∷ l)) some ∙ dropped m n l

  pub stands-between : (start end : ℕ) (xs : List Standing) → StandsAt all start xs → end ≡ start + length xs → between start end all ≡ xs
  stands-between start end xs stands is = let many : end - start ≡ length xs = omega arith in ap (λ n. take n (drop start all)) many ∙ stands.are

  pub stands-all : (xs : List Standing) → all ≡ xs → StandsAt all 0 xs
  stands-all xs is = record {
    within = subst (λ (l : List Standing). 0 + length xs ≤ length l) (sym is) (omega arith);
    are = ap (take (length xs)) is ∙ ap (take (length xs)) (sym (append-nil xs)) ∙ take-append_seam xs [];
  }

  module _ {A : Type 0} (f : A → List Standing) where
    pub parts-split : (parts : List A) (i : ℕ) (x : A) → i < length parts → x ≡ get_or parts i x → flat_map f parts ≡ flat_map f (take i parts) ++ (f x ++ flat_map f (drop (i + 1) parts))
    parts-split [] i x lt is = absurd (omega arith)
    parts-split (y ∷ parts) zero x lt is = ap (λ z. f z ++ flat_map f parts) (sym is)
    parts-split (y ∷ parts) (suc i) x lt is =
        ap (λ l. f y ++ l) (parts-split parts i x (omega arith) is) ∙ sym (append_assoc (f y) (flat_map f (take i parts)) (f x ++ flat_map f (drop (i + 1) parts)))
        ∙ (let next : suc (i + 1) ≡ suc i + 1 = omega arith in ap (λ n. (f y ++ flat_map f (take i parts)) ++ (f x ++ flat_map f (drop n (y ∷ parts)))) next)

    pub stands-part : (start : ℕ) (parts : List A) (i : ℕ) (x : A) → StandsAt all start (flat_map f parts) → i < length parts → x ≡ get_or parts i x → StandsAt all (start + length (flat_map f (take i parts))) (f x)
    stands-part start parts i x stands lt is =
        let there : StandsAt all start (flat_map f (take i parts) ++ (f x ++ flat_map f (drop (i + 1) parts))) = subst (StandsAt all start) (parts-split parts i x lt is) stands in
        stands-left (start + length (flat_map f (take i parts))) (f x) (flat_map f (drop (i + 1) parts)) (stands-right start (flat_map f (take i parts)) (f x ++ flat_map f (drop (i + 1) parts)) there)

    pub stands-front : (start : ℕ) (parts : List A) (i : ℕ) (x : A) → StandsAt all start (flat_map f parts) → i < length parts → x ≡ get_or parts i x → StandsAt all start (flat_map f (take i parts))
    stands-front start parts i x stands lt is = stands-left start (flat_map f (take i parts)) (f x ++ flat_map f (drop (i + 1) parts)) (subst (StandsAt all start) (parts-split parts i x lt is) stands)

pub read-here : {A : Type 0} (xs : List A) (i : ℕ) (x : A) → slice_get xs i ≡ Some x → x ≡ get_or xs i x
read-here [] i x got = cc
read-here (y ∷ xs) zero x got = let it : y ≡ x = cc in sym it
read-here (y ∷ xs) (suc i) x got = read-here xs i x got

pub between-start : {A : Type 0} (e : ℕ) (xs : List A) → between 0 e xs ≡ take e xs
between-start e [] = let all : e - 0 ≡ e = omega arith in ap (λ n. take n []) all
between-start e (x ∷ xs) = let all : e - 0 ≡ e = omega arith in ap (λ n. take n (x ∷ xs)) all

pub between-one : {A : Type 0} (i : ℕ) (xs : List A) (x : A) → slice_get xs i ≡ Some x → between i (i + 1) xs ≡ x ∷ []
between-one {A = A} i xs x got =
    let none : i - i ≡ 0 = omega arith in
    between-more i i xs x got (omega arith) ∙ ap (λ n. take n (drop i xs) ++ x ∷ []) none ∙ empty (drop i xs)
  where
    empty : (ys : List A) → take 0 ys ++ x ∷ [] ≡ x ∷ []
    empty [] = refl
    empty (y ∷ ys) = refl

-- one more link
pub links-more : (all : List Standing) (classes : List ℕ) (kind : Kind) (links new : List ℕ) (place end : ℕ) → length links ≡ place → ((j : ℕ) → j < place → IsBehind all classes kind (get_or classes j 0) j (get_or links j 0))
    → IsBehind all classes kind (get_or classes place 0) place end → new ≡ links ++ end ∷ [] → (j : ℕ) → j < place + 1 → IsBehind all classes kind (get_or classes j 0) j (get_or new j 0)
links-more all classes kind links new place end long behind here is j lt = by (cases_eq j place)
  where
    by : (j ≡ place) ⊎ (j ≡ place → ⊥) → IsBehind all classes kind (get_or classes j 0) j (get_or new j 0)
    by (inl same) =
        let it : get_or new place 0 ≡ end = ap (λ l. get_or l place 0) is ∙ ap (λ n. get_or (links ++ end ∷ []) n 0) (sym long) ∙ get_or-append_seam links end [] 0 in
        subst (λ n. IsBehind all classes kind (get_or classes n 0) n (get_or new n 0)) (sym same) (subst (IsBehind all classes kind (get_or classes place 0) place) (sym it) here)
    by (inr not) =
        let below : j < length links = omega (arith, lt, not, long) in
        subst (IsBehind all classes kind (get_or classes j 0) j) (sym (ap (λ l. get_or l j 0) is ∙ get_or_append_left links (end ∷ []) 0 j below)) (behind j (omega (arith, lt, not)))

pub none-left : {A : Type 0} (xs : List A) → length xs < 1 → xs ≡ []
none-left [] few = refl
none-left (x ∷ xs) few = absurd (omega arith)
