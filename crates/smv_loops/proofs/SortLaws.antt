-- A stable sort by place of what was put in reverse gives the flat order.
use Rattle.std.proofs.Common.{◌≡◌, ◌≢◌, ℕ, zero, suc, ◌<◌, ◌≤◌, ◌⊎◌, inl, inr, List, [], ◌∷◌, ◌++◌, map, filter, reverse, length, get_or, Bool, true, false, not, ◌&&◌, cond, nat_eq, nat_lt, refl, sym, ap, ◌∙◌, arith}
use Rattle.std.specs.List.Sorted.{IsNonDecreasingBy, ties}
use Rattle.std.specs.Ordering.{is_lt, nat_cmp}
use Rattle.std.proofs.lemmas.List.{append-nil, map-append, reverse-append}
use Rattle.std.proofs.lemmas.List.Elements.{filter-append, filter_agree}
use Rattle.std.proofs.lemmas.Bool.{cases_eq}
use Rattle.law_lists.proofs.Numbers.{nat_eq-is, nat_lt-is, nat_lt-not, nat_eq-apart}
use Rattle.law_designs.specs.Reading.{Reading}
use Rattle.law_designs.specs.Loops.{put, in_order}
use Rattle.smv_loops.proofs.Members.{In, in-filter, in-filtered, in-mapped, in-same, place-in}

same : (n : ℕ) → nat_eq n n ≡ true
same n = search arith

module _ {X : Type 0} (key : X → ℕ) where
  abbrev at : ℕ → X → Bool
  at k x = nat_eq k (key x)

  -- none has a smaller key than one before it
  abbrev pub IsUp : List X → Type 0
  IsUp [] = Unit {0}
  IsUp (x ∷ xs) = ((y : X) → In y xs → key x ≤ key y) × IsUp xs

  tail-up : (x : X) (xs : List X) → IsNonDecreasingBy key (x ∷ xs) → IsNonDecreasingBy key xs
  tail-up x xs h i j d l m = h (suc i) (suc j) d (omega (arith, l)) (omega (arith, m))

  pub up-from : (xs : List X) → IsNonDecreasingBy key xs → IsUp xs
  up-from [] h = tt
  up-from (x ∷ xs) h = ((λ y i. first y (place-in y xs i)), up-from xs (tail-up x xs h))
    where
      first : (y : X) → (k : ℕ) × (k < length xs) × ((d : X) → get_or xs k d ≡ y) → key x ≤ key y
      first y p = let l = h 0 (suc p.0) x (omega arith) (let m = p.1 in omega (arith, m)) in let e = ap key (p.2 x) in omega (arith, l, e)

  at-itself : (x : X) → at (key x) x ≡ true
  at-itself x = same (key x)

  head-kept : (k : ℕ) (x : X) (xs : List X) → at k x ≡ true → filter (at k) (x ∷ xs) ≡ x ∷ filter (at k) xs
  head-kept k x xs e = ap (λ b. cond b (x ∷ filter (at k) xs) (filter (at k) xs)) e

  not-before : (x y : X) (xs ys : List X) → IsUp (y ∷ ys) → filter (at (key x)) (x ∷ xs) ≡ filter (at (key x)) (y ∷ ys) → key y ≤ key x
  not-before x y xs ys u e = from (in-filtered (at (key x)) x (y ∷ ys) (in-same x (filter (at (key x)) (x ∷ xs)) (filter (at (key x)) (y ∷ ys)) e (in-filter (at (key x)) x (x ∷ xs) (inl refl) (at-itself x)))).0
    where
      from : In x (y ∷ ys) → key y ≤ key x
      from (inl s) = let t = ap key s in omega (arith, t)
      from (inr i) = u.0 x i

  -- two such lists are one where those of each key stand in the same order
  pub one-order : (xs ys : List X) → IsUp xs → IsUp ys → ((x : X) → filter (at (key x)) xs ≡ filter (at (key x)) ys) → xs ≡ ys
  one-order [] [] u v e = refl
  one-order [] (y ∷ ys) u v e = let h = e y ∙ head-kept (key y) y ys (at-itself y) in absurd (cc)
  one-order (x ∷ xs) [] u v e = let h = sym (e x) ∙ head-kept (key x) x xs (at-itself x) in absurd (cc)
  one-order (x ∷ xs) (y ∷ ys) u v e = ap (λ z. z ∷ xs) first ∙ ap (λ zs. y ∷ zs) (one-order xs ys u.1 v.1 rest)
    where
      keys : key x ≡ key y
      keys = let l = not-before x y xs ys v (e x) in let m = not-before y x ys xs u (sym (e y)) in omega (arith, l, m)

      heads : x ∷ filter (at (key x)) xs ≡ y ∷ filter (at (key x)) ys
      heads = sym (head-kept (key x) x xs (at-itself x)) ∙ e x ∙ head-kept (key x) y ys (ap (λ k. nat_eq k (key y)) keys ∙ same (key y))

      first : x ≡ y
      first = let h = heads in cc

      rest : (z : X) → filter (at (key z)) xs ≡ filter (at (key z)) ys
      rest z = by (at (key z) x) (at (key z) y) (ap (at (key z)) first) (e z)
        where
          by : (b c : Bool) → b ≡ c → cond b (x ∷ filter (at (key z)) xs) (filter (at (key z)) xs) ≡ cond c (y ∷ filter (at (key z)) ys) (filter (at (key z)) ys) → filter (at (key z)) xs ≡ filter (at (key z)) ys
          by true true g h = cc
          by false false g h = h
          by true false g h = absurd (cc)
          by false true g h = absurd (cc)

abbrev place : Reading → ℕ
place a = a.place

abbrev at_place : ℕ → Reading → Bool
at_place k a = nat_eq k a.place

pub in-put : (a b : Reading) (xs : List Reading) → In b (put a xs) → (a ≡ b) ⊎ In b xs
in-put a b [] (inl e) = inl e
in-put a b [] (inr h) = absurd h
in-put a b (c ∷ xs) h = by (nat_lt a.place c.place) h (in-put a b xs)
  where
    by : (t : Bool) → In b (cond t (a ∷ c ∷ xs) (c ∷ put a xs)) → (In b (put a xs) → (a ≡ b) ⊎ In b xs) → (a ≡ b) ⊎ In b (c ∷ xs)
    by true (inl e) more = inl e
    by true (inr g) more = inr g
    by false (inl e) more = inr (inl e)
    by false (inr g) more = elim (more g) [ inl e ↦ inl e | inr i ↦ inr (inr i) ]

put-up : (a : Reading) (xs : List Reading) → IsUp place xs → IsUp place (put a xs)
put-up a [] u = ((λ y i. absurd i), tt)
put-up a (c ∷ xs) u = by (nat_lt a.place c.place) refl (put-up a xs u.1)
  where
    by : (t : Bool) → nat_lt a.place c.place ≡ t → IsUp place (put a xs) → IsUp place (cond t (a ∷ c ∷ xs) (c ∷ put a xs))
    by true e more = ((λ y i. above y i), u)
      where
        above : (y : Reading) → In y (c ∷ xs) → a.place ≤ y.place
        above y (inl s) = let l = nat_lt-is a.place c.place e in let t = ap place s in omega (arith, l, t)
        above y (inr i) = let l = nat_lt-is a.place c.place e in let m = u.0 y i in omega (arith, l, m)
    by false e more = ((λ y i. from y (in-put a y xs i)), more)
      where
        from : (y : Reading) → (a ≡ y) ⊎ In y xs → c.place ≤ y.place
        from y (inl s) = let l = nat_lt-not a.place c.place e in let t = ap place s in omega (arith, l, t)
        from y (inr i) = u.0 y i

none-at : (k : ℕ) (xs : List Reading) → ((y : Reading) → In y xs → k < y.place) → filter (at_place k) xs ≡ []
none-at k [] h = refl
none-at k (x ∷ xs) h =
    let l = h x (inl refl) in
    let n : k ≢ x.place = omega (arith, l) in
    ap (λ b. cond b (x ∷ filter (at_place k) xs) (filter (at_place k) xs)) (nat_eq-apart k x.place n) ∙ none-at k xs (λ y i. h y (inr i))

filter-put : (k : ℕ) (a : Reading) (xs : List Reading) → IsUp place xs → filter (at_place k) (put a xs) ≡ filter (at_place k) xs ++ filter (at_place k) (a ∷ [])
filter-put k a [] u = refl
filter-put k a (c ∷ xs) u = by (nat_lt a.place c.place) refl (filter-put k a xs u.1)
  where
    by : (t : Bool) → nat_lt a.place c.place ≡ t → filter (at_place k) (put a xs) ≡ filter (at_place k) xs ++ filter (at_place k) (a ∷ []) →
        filter (at_place k) (cond t (a ∷ c ∷ xs) (c ∷ put a xs)) ≡ filter (at_place k) (c ∷ xs) ++ filter (at_place k) (a ∷ [])
    by true e more = on (cases_eq k a.place)
      where
        on : (k ≡ a.place) ⊎ (k ≢ a.place) → filter (at_place k) (a ∷ c ∷ xs) ≡ filter (at_place k) (c ∷ xs) ++ filter (at_place k) (a ∷ [])
        on (inl s) =
            let none : filter (at_place k) (c ∷ xs) ≡ [] = none-at k (c ∷ xs) (λ y i. above y i) in
            let h : nat_eq k a.place ≡ true = ap (λ k. nat_eq k a.place) s ∙ same a.place in
            ap (λ b. cond b (a ∷ filter (at_place k) (c ∷ xs)) (filter (at_place k) (c ∷ xs))) h ∙ ap (λ l. a ∷ l) none
            ∙ sym (ap (λ l. l ++ filter (at_place k) (a ∷ [])) none ∙ ap (λ b. cond b (a ∷ []) []) h)
          where
            above : (y : Reading) → In y (c ∷ xs) → k < y.place
            above y (inl q) = let l = nat_lt-is a.place c.place e in let t = ap place q in omega (arith, l, t, s)
            above y (inr i) = let l = nat_lt-is a.place c.place e in let m = u.0 y i in omega (arith, l, m, s)
        on (inr n) =
            let h = nat_eq-apart k a.place n in
            ap (λ b. cond b (a ∷ filter (at_place k) (c ∷ xs)) (filter (at_place k) (c ∷ xs))) h
            ∙ sym (ap (λ l. filter (at_place k) (c ∷ xs) ++ l) (ap (λ b. cond b (a ∷ []) []) h) ∙ append-nil (filter (at_place k) (c ∷ xs)))
    by false e more = on (nat_eq k c.place)
      where
        on : (b : Bool) → cond b (c ∷ filter (at_place k) (put a xs)) (filter (at_place k) (put a xs)) ≡ cond b (c ∷ filter (at_place k) xs) (filter (at_place k) xs) ++ filter (at_place k) (a ∷ [])
        on true = ap (λ l. c ∷ l) more
        on false = more

pub order-up : (xs : List Reading) → IsUp place (in_order xs)
order-up [] = tt
order-up (a ∷ xs) = put-up a (in_order xs) (order-up xs)

module _ {H : Type 0} (f : H → Reading) where
  filter-map : (k : ℕ) (hs : List H) → filter (at_place k) (map f hs) ≡ map f (filter (λ h. at_place k (f h)) hs)
  filter-map k [] = refl
  filter-map k (h ∷ hs) = by (at_place k (f h)) (filter-map k hs)
    where
      by : (b : Bool) → filter (at_place k) (map f hs) ≡ map f (filter (λ h. at_place k (f h)) hs) → cond b (f h ∷ filter (at_place k) (map f hs)) (filter (at_place k) (map f hs)) ≡ map f (cond b (h ∷ filter (λ h. at_place k (f h)) hs) (filter (λ h. at_place k (f h)) hs))
      by true e = ap (λ l. f h ∷ l) e
      by false e = e

  up-map : (hs : List H) → IsUp (λ h. (f h).place) hs → IsUp place (map f hs)
  up-map [] u = tt
  up-map (h ∷ hs) u = ((λ y i. above y (in-mapped f y hs i)), up-map hs u.1)
    where
      above : (y : Reading) → (x : H) × In x hs × (f x ≡ y) → (f h).place ≤ y.place
      above y r = let l = u.0 r.0 r.1 in let e = ap place r.2 in omega (arith, l, e)

  filter-order : (k : ℕ) (hs : List H) → filter (at_place k) (in_order (map f hs)) ≡ filter (at_place k) (map f (reverse hs))
  filter-order k [] = refl
  filter-order k (h ∷ hs) =
      filter-put k (f h) (in_order (map f hs)) (order-up (map f hs))
      ∙ ap (λ l. l ++ filter (at_place k) (f h ∷ [])) (filter-order k hs)
      ∙ sym (filter-append (at_place k) (map f (reverse hs)) (f h ∷ []))
      ∙ ap (filter (at_place k)) (sym (map-append f (reverse hs) (h ∷ [])))
      ∙ ap (λ l. filter (at_place k) (map f l)) (sym (reverse-append (h ∷ []) hs))

  -- those of one place stand in the same order where this is so for the place of each
  each-place : (ys zs : List H) → ((x : H) → filter (λ y. nat_eq (f x).place (f y).place) ys ≡ filter (λ y. nat_eq (f x).place (f y).place) zs) → (k : ℕ) → filter (λ y. at_place k (f y)) ys ≡ filter (λ y. at_place k (f y)) zs
  each-place ys zs e k = by (filter (λ y. at_place k (f y)) ys) (filter (λ y. at_place k (f y)) zs) refl refl
    where
      on : (x : H) → at_place k (f x) ≡ true → filter (λ y. at_place k (f y)) ys ≡ filter (λ y. at_place k (f y)) zs
      on x h = let s = nat_eq-is k (f x).place h in ap (λ k. filter (λ y. at_place k (f y)) ys) s ∙ e x ∙ ap (λ k. filter (λ y. at_place k (f y)) zs) (sym s)

      by : (l m : List H) → filter (λ y. at_place k (f y)) ys ≡ l → filter (λ y. at_place k (f y)) zs ≡ m → filter (λ y. at_place k (f y)) ys ≡ filter (λ y. at_place k (f y)) zs
      by [] [] p q = p ∙ sym q
      by (x ∷ l) m p q = on x (in-filtered (λ y. at_place k (f y)) x ys (in-same x (x ∷ l) (filter (λ y. at_place k (f y)) ys) (sym p) (inl refl))).1
      by [] (x ∷ m) p q = on x (in-filtered (λ y. at_place k (f y)) x zs (in-same x (x ∷ m) (filter (λ y. at_place k (f y)) zs) (sym q) (inl refl))).1

  -- what is sorted by place, where those of one place stand as they did in reverse, is the flat order
  pub sorted-is-order : (hs ys : List H) → IsNonDecreasingBy (λ h. (f h).place) ys → ((x : H) → filter (λ y. nat_eq (f x).place (f y).place) ys ≡ filter (λ y. nat_eq (f x).place (f y).place) (reverse hs)) → map f ys ≡ in_order (map f hs)
  sorted-is-order hs ys up stable = one-order place (map f ys) (in_order (map f hs)) (up-map ys (up-from (λ h. (f h).place) ys up)) (order-up (map f hs))
      (λ a. filter-map a.place ys ∙ ap (map f) (each-place ys (reverse hs) stable a.place) ∙ sym (filter-map a.place (reverse hs)) ∙ sym (filter-order a.place hs))

which : (m n : ℕ) → (m < n) ⊎ ((m ≡ n) ⊎ (n < m))
which zero zero = inr (inl refl)
which zero (suc n) = inl (omega arith)
which (suc m) zero = inr (inr (omega arith))
which (suc m) (suc n) = elim (which m n) [ inl l ↦ inl (omega (arith, l)) | inr r ↦ elim r [ inl e ↦ inr (inl (ap suc e)) | inr l ↦ inr (inr (omega (arith, l))) ] ]

-- two places of which neither is before the other are one
ties-are : (m n : ℕ) → (not (is_lt (nat_cmp m n)) && not (is_lt (nat_cmp n m))) ≡ nat_eq m n
ties-are m n = by (which m n)
  where
    by : (m < n) ⊎ ((m ≡ n) ⊎ (n < m)) → (not (is_lt (nat_cmp m n)) && not (is_lt (nat_cmp n m))) ≡ nat_eq m n
    by (inl l) = grind arith
    by (inr (inl e)) = grind arith
    by (inr (inr l)) = grind arith

pub stable-at : {H : Type 0} (f : H → Reading) (ys zs : List H) → ((x : H) → filter (ties (λ a b. is_lt (nat_cmp (f a).place (f b).place)) x) ys ≡ filter (ties (λ a b. is_lt (nat_cmp (f a).place (f b).place)) x) zs) → (x : H) → filter (λ y. nat_eq (f x).place (f y).place) ys ≡ filter (λ y. nat_eq (f x).place (f y).place) zs
stable-at f ys zs e x =
    sym (filter_agree (ties (λ a b. is_lt (nat_cmp (f a).place (f b).place)) x) (λ y. nat_eq (f x).place (f y).place) (λ y. ties-are (f x).place (f y).place) ys)
    ∙ e x
    ∙ filter_agree (ties (λ a b. is_lt (nat_cmp (f a).place (f b).place)) x) (λ y. nat_eq (f x).place (f y).place) (λ y. ties-are (f x).place (f y).place) zs
