-- References and left sides share a cell exactly where their indexes may be the same.
use Rattle.std.proofs.Common.{◌≡◌, ℕ, suc, ◌+◌, ◌-◌, ◌<◌, List, [], ◌∷◌, map, filter, slice_get, inl, inr, Option, Some, None, Bool, true, false, not, ◌&&◌, ◌||◌, cond, nat_eq, refl, sym, ap, subst, ◌∙◌, arith}
use Rattle.std.specs.List.{list_any, flat_map}
use Rattle.law_lists.proofs.Booleans.{left_of, right_of, and_both}
use Rattle.law_lists.proofs.Options.{some_is}
use Rattle.law_lists.proofs.Lists.{head_is, tail_is}
use Rattle.smv_core.specs.Values.{number, numbers_from}
use Rattle.smv_core.specs.Assignments.{Index, fits}
use Rattle.smv_core.specs.declared.flat.Simple.{Simple}
use Rattle.smv_core.specs.declared.flat.Simple.TheVariants.{Range, Enum, Set}
use Rattle.smv_core.specs.declared.flat.Family.{Family}
use Rattle.smv_core.specs.declared.flat.Cell.{Cell}
use Rattle.law_designs.specs.Loops.{is_constant, at_index, cells_of}
use Rattle.law_designs.specs.Reading.{Reference, Reading}
use Rattle.smv_loops.specs.Cells.{picked}
use Rattle.smv_loops.proofs.Members.{In, in-filter, in-filtered, any-of, in-map, in-mapped, in-flat_map, in-flat_mapped}
use Rattle.smv_look_loops.specs.Shares.{both_fit, share_at, share, share_in, meets}

pub any-found : {X : Type 0} (test : X → Bool) (xs : List X) → list_any test xs ≡ true → (x : X) × In x xs × (test x ≡ true)
any-found test [] h = absurd (cc)
any-found {X = X} test (x ∷ xs) h = at (test x) refl (λ g. any-found test xs g)
  where
    at : (b : Bool) → test x ≡ b → (list_any test xs ≡ true → (y : X) × In y xs × (test y ≡ true)) → (y : X) × In y (x ∷ xs) × (test y ≡ true)
    at true e more = (x, inl refl, e)
    at false e more = let r = more (sym (ap (λ (b : Bool). b || list_any test xs) e) ∙ h) in (r.0, inr r.1, r.2)

-- the next number, where this one does not pass
pub any-step : (test : ℕ → Bool) (k high : ℕ) (found : Bool) → k < high + 1 → test k ≡ false → list_any test (numbers_from k (high + 1 - k)) ≡ found → list_any test (numbers_from (k + 1) (high + 1 - (k + 1))) ≡ found
any-step test k high found l e h =
    let n : high + 1 - k ≡ suc (high + 1 - (k + 1)) = omega (arith, l) in
    sym (ap (λ (b : Bool). b || list_any test (numbers_from (k + 1) (high + 1 - (k + 1)))) e) ∙ sym (ap (λ (n : ℕ). list_any test (numbers_from k n)) n) ∙ h

-- ---- at one index

module _ (i j : Index) where
  one-at : (b c : Bool) → (not b && not c) ≡ true → (x : Option ℕ) × In x (cond b [] (None ∷ [])) × In x (cond c [] (None ∷ []))
  one-at true c h = absurd (cc)
  one-at false true h = absurd (cc)
  one-at false false h = (None, inl refl, inl refl)

  at-one : (b c : Bool) (x : Option ℕ) → In x (cond b [] (None ∷ [])) → In x (cond c [] (None ∷ [])) → (not b && not c) ≡ true
  at-one true c x p q = absurd p
  at-one false true x p q = absurd q
  at-one false false x p q = refl

  shared-at : (o : Simple) → share_at o i j ≡ true → (x : Option ℕ) × In x (at_index o i) × In x (at_index o j)
  shared-at (Range low high) h =
      let ns = numbers_from low (high + 1 - low) in
      let r = any-found (both_fit i j) ns h in
      let k = r.0 in
      let a = left_of (fits i (number k)) (fits j (number k)) r.2 in
      let b = right_of (fits i (number k)) (fits j (number k)) r.2 in
      (Some k, in-map Some k (filter (λ (k : ℕ). fits i (number k)) ns) (in-filter (λ (k : ℕ). fits i (number k)) k ns r.1 a), in-map Some k (filter (λ (k : ℕ). fits j (number k)) ns) (in-filter (λ (k : ℕ). fits j (number k)) k ns r.1 b))
  shared-at (Enum list) h = one-at (is_constant i) (is_constant j) h
  shared-at (Set set) h = one-at (is_constant i) (is_constant j) h

  at-shared : (o : Simple) (x : Option ℕ) → In x (at_index o i) → In x (at_index o j) → share_at o i j ≡ true
  at-shared (Range low high) x p q =
      let ns = numbers_from low (high + 1 - low) in
      let a = in-mapped Some x (filter (λ (k : ℕ). fits i (number k)) ns) p in
      let b = in-mapped Some x (filter (λ (k : ℕ). fits j (number k)) ns) q in
      let f = in-filtered (λ (k : ℕ). fits i (number k)) a.0 ns a.1 in
      let g = in-filtered (λ (k : ℕ). fits j (number k)) b.0 ns b.1 in
      let same : b.0 ≡ a.0 = some_is (b.2 ∙ sym a.2) in
      any-of (both_fit i j) a.0 ns f.0 (and_both f.1 (sym (ap (λ (k : ℕ). fits j (number k)) same) ∙ g.1))
  at-shared (Enum list) x p q = at-one (is_constant i) (is_constant j) x p q
  at-shared (Set set) x p q = at-one (is_constant i) (is_constant j) x p q

-- ---- at all of them

cons-in : (x : Option ℕ) (list : List (Option ℕ)) (choices : List (Option ℕ)) (rest : List (List (Option ℕ))) → In x choices → In list rest → In (x ∷ list) (flat_map (λ (x : Option ℕ). map (λ (xs : List (Option ℕ)). x ∷ xs) rest) choices)
cons-in x list choices rest p q = in-flat_map (λ (x : Option ℕ). map (λ (xs : List (Option ℕ)). x ∷ xs) rest) x (x ∷ list) choices p (in-map (λ (xs : List (Option ℕ)). x ∷ xs) list rest q)

in-cons : (whole : List (Option ℕ)) (choices : List (Option ℕ)) (rest : List (List (Option ℕ))) → In whole (flat_map (λ (x : Option ℕ). map (λ (xs : List (Option ℕ)). x ∷ xs) rest) choices) → (x : Option ℕ) × (list : List (Option ℕ)) × In x choices × In list rest × (x ∷ list ≡ whole)
in-cons whole choices rest h =
    let a = in-flat_mapped (λ (x : Option ℕ). map (λ (xs : List (Option ℕ)). x ∷ xs) rest) whole choices h in
    let b = in-mapped (λ (xs : List (Option ℕ)). a.0 ∷ xs) whole rest a.2 in
    (a.0, b.0, a.1, b.1, b.2)

shared : (over : List Simple) (is js : List Index) → share over is js ≡ true → (list : List (Option ℕ)) × In list (picked over is) × In list (picked over js)
shared [] is js h = ([], inl refl, inl refl)
shared (o ∷ over) [] [] h = ([], inl refl, inl refl)
shared (o ∷ over) [] (j ∷ js) h = absurd (cc)
shared (o ∷ over) (i ∷ is) [] h = absurd (cc)
shared (o ∷ over) (i ∷ is) (j ∷ js) h =
    let x = shared-at i j o (left_of (share_at o i j) (share over is js) h) in
    let r = shared over is js (right_of (share_at o i j) (share over is js) h) in
    (x.0 ∷ r.0, cons-in x.0 r.0 (at_index o i) (picked over is) x.1 r.1, cons-in x.0 r.0 (at_index o j) (picked over js) x.2 r.2)

no-cons : {x : Option ℕ} {xs : List (Option ℕ)} → x ∷ xs ≡ [] → ⊥
no-cons e = absurd (cc)

only-nil : (whole : List (Option ℕ)) → In whole ([] ∷ []) → [] ≡ whole
only-nil whole (inl e) = e
only-nil whole (inr h) = absurd h

are-shared : (over : List Simple) (is js : List Index) (whole : List (Option ℕ)) → In whole (picked over is) → In whole (picked over js) → share over is js ≡ true
are-shared [] is js whole p q = refl
are-shared (o ∷ over) [] [] whole p q = refl
are-shared (o ∷ over) [] (j ∷ js) whole p q =
    let r = in-cons whole (at_index o j) (picked over js) q in
    absurd (no-cons (r.4 ∙ sym (only-nil whole p)))
are-shared (o ∷ over) (i ∷ is) [] whole p q =
    let r = in-cons whole (at_index o i) (picked over is) p in
    absurd (no-cons (r.4 ∙ sym (only-nil whole q)))
are-shared (o ∷ over) (i ∷ is) (j ∷ js) whole p q =
    let a = in-cons whole (at_index o i) (picked over is) p in
    let b = in-cons whole (at_index o j) (picked over js) q in
    let e : b.0 ∷ b.1 ≡ a.0 ∷ a.1 = b.4 ∙ sym a.4 in
    let x : In a.0 (at_index o j) = subst (λ (x : Option ℕ). In x (at_index o j)) (head_is e) b.2 in
    let r : In a.1 (picked over js) = subst (λ (l : List (Option ℕ)). In l (picked over js)) (tail_is e) b.3 in
    and_both (at-shared i j o a.0 a.2 x) (are-shared over is js a.1 a.3 r)

-- ---- cells

abbrev cell_with : ℕ → List (Option ℕ) → Cell
cell_with family is = record { family = family; indexes = is }

module _ (family : ℕ) (is js : List Index) where
  shared-in : (f : Option Family) → share_in f is js ≡ true → (c : Cell) × In c (cells_of f family is) × In c (cells_of f family js)
  shared-in None h = absurd (cc)
  shared-in (Some f) h =
      let r = shared f.over is js h in
      (cell_with family r.0, in-map (cell_with family) r.0 (picked f.over is) r.1, in-map (cell_with family) r.0 (picked f.over js) r.2)

  in-shared : (f : Option Family) (c : Cell) → In c (cells_of f family is) → In c (cells_of f family js) → share_in f is js ≡ true
  in-shared None c p q = absurd p
  in-shared (Some f) c p q =
      let a = in-mapped (cell_with family) c (picked f.over is) p in
      let b = in-mapped (cell_with family) c (picked f.over js) q in
      let same : b.0 ≡ a.0 = ap (λ (c : Cell). c.indexes) (b.2 ∙ sym a.2) in
      are-shared f.over is js a.0 a.1 (subst (λ (l : List (Option ℕ)). In l (picked f.over js)) same b.1)

family-of : (f : Option Family) (family : ℕ) (is : List Index) (c : Cell) → In c (cells_of f family is) → c.family ≡ family
family-of None family is c p = absurd p
family-of (Some f) family is c p = let a = in-mapped (cell_with family) c (picked f.over is) p in sym (ap (λ (c : Cell). c.family) a.2)

pub eq-is : (m n : ℕ) → nat_eq m n ≡ true → m ≡ n
eq-is m n e = grind arith

pub eq-true : (m n : ℕ) → m ≡ n → nat_eq m n ≡ true
eq-true m n e = grind arith

module _ (families : List Family) (r : Reference) (b : Reading) where
  abbrev pub InBoth : Cell → Type 0
  InBoth c = In c (cells_of (slice_get families r.family) r.family r.indexes) × In c (cells_of (slice_get families b.family) b.family b.left)

  pub meets-cell : meets families r b ≡ true → (c : Cell) × InBoth c
  meets-cell h =
      let same = eq-is r.family b.family (left_of (nat_eq r.family b.family) (share_in (slice_get families r.family) r.indexes b.left) h) in
      let c = shared-in r.family r.indexes b.left (slice_get families r.family) (right_of (nat_eq r.family b.family) (share_in (slice_get families r.family) r.indexes b.left) h) in
      (c.0, (c.1, subst (λ (n : ℕ). In c.0 (cells_of (slice_get families n) n b.left)) same c.2))

  pub cell-meets : (c : Cell) → InBoth c → meets families r b ≡ true
  cell-meets c p =
      let same : b.family ≡ r.family = sym (family-of (slice_get families b.family) b.family b.left c p.1) ∙ family-of (slice_get families r.family) r.family r.indexes c p.0 in
      let q : In c (cells_of (slice_get families r.family) r.family b.left) = subst (λ (n : ℕ). In c (cells_of (slice_get families n) n b.left)) same p.1 in
      and_both (eq-true r.family b.family (sym same)) (in-shared r.family r.indexes b.left (slice_get families r.family) c p.0 q)
