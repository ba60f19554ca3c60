-- Each number stands for one cell.
use Rattle.std.proofs.Common.{◌≡◌, ℕ, zero, suc, ◌+◌, ◌-◌, ◌*◌, ◌<◌, ◌≤◌, inl, inr, List, [], ◌∷◌, ◌++◌, map, filter, length, get_or, slice_get, Option, Some, None, Bool, true, false, cond, refl, sym, ap, ◌∙◌, arith}
use Rattle.std.specs.List.{flat_map}
use Rattle.std.proofs.lemmas.List.{length-append}
use Rattle.smv_core.specs.Values.{number, numbers_from}
use Rattle.smv_core.specs.Assignments.{Index, computed, fits}
use Rattle.smv_core.specs.declared.flat.Simple.{Simple}
use Rattle.smv_core.specs.declared.flat.Simple.TheVariants.{Range, Enum, Set}
use Rattle.smv_core.specs.declared.flat.Family.{Family}
use Rattle.smv_core.specs.declared.flat.Cell.{Cell}
use Rattle.law_designs.specs.Loops.{at_index, is_constant, cells_of}
use Rattle.law_designs.specs.Reading.{Reading}
use Rattle.smv_loops.specs.Cells.{picked, every, digit, place, base, over_of, number_in, froms, tos, reads_of}
use Rattle.smv_loops.proofs.Members.{In, in-filtered, in-mapped, in-flat_mapped}
use Rattle.smv_loops.proofs.NumberLaws.{length-map}

-- ---- what stands at a place

module _ {X : Type 0} where
  pub get-left : (xs ys : List X) (k : ℕ) (x : X) → slice_get xs k ≡ Some x → slice_get (xs ++ ys) k ≡ Some x
  get-left [] ys k x e = absurd (cc)
  get-left (y ∷ xs) ys zero x e = e
  get-left (y ∷ xs) ys (suc k) x e = get-left xs ys k x e

  pub get-right : (xs ys : List X) (k : ℕ) → slice_get (xs ++ ys) (length xs + k) ≡ slice_get ys k
  get-right [] ys k = let e : 0 + k ≡ k = omega arith in ap (slice_get ys) e
  get-right (x ∷ xs) ys k =
      let e : suc (length xs) + k ≡ suc (length xs + k) = omega arith in
      ap (slice_get (x ∷ (xs ++ ys))) e ∙ get-right xs ys k

  pub get-inside : (xs : List X) (k : ℕ) (x : X) → slice_get xs k ≡ Some x → k < length xs
  get-inside [] k x e = absurd (cc)
  get-inside (y ∷ ys) zero x e = omega arith
  get-inside (y ∷ ys) (suc k) x e = let l = get-inside ys k x e in omega (arith, l)

  pub get-some : (xs : List X) (k : ℕ) (x : X) → k < length xs → x ≡ get_or xs k x → slice_get xs k ≡ Some x
  get-some [] k x l e = absurd (omega (arith, l))
  get-some (y ∷ ys) zero x l e = ap Some (sym e)
  get-some (y ∷ ys) (suc k) x l e = get-some ys k x (omega (arith, l)) e

  pub get-map : {Y : Type 0} (f : X → Y) (xs : List X) (k : ℕ) (x : X) → slice_get xs k ≡ Some x → slice_get (map f xs) k ≡ Some (f x)
  get-map f [] k x e = absurd (cc)
  get-map f (y ∷ ys) zero x e = let h : y ≡ x = cc in ap (λ z. Some (f z)) h
  get-map f (y ∷ ys) (suc k) x e = get-map f ys k x e

module _ {X : Type 0} where
  get-fronts : (ws : List (List X)) (xs : List X) (k p : ℕ) (x : X) (w : List X) → slice_get xs k ≡ Some x → slice_get ws p ≡ Some w → slice_get (flat_map (λ (x : X). map (λ (w : List X). x ∷ w) ws) xs) (k * length ws + p) ≡ Some (x ∷ w)
  get-fronts ws [] k p x w e f = absurd (cc)
  get-fronts ws (y ∷ ys) zero p x w e f =
      let h : y ≡ x = cc in
      let z : 0 * length ws + p ≡ p = omega arith in
      ap (slice_get (map (λ (w : List X). y ∷ w) ws ++ flat_map (λ (x : X). map (λ (w : List X). x ∷ w) ws) ys)) z
      ∙ get-left (map (λ w. y ∷ w) ws) (flat_map (λ (x : X). map (λ (w : List X). x ∷ w) ws) ys) p (y ∷ w) (get-map (λ w. y ∷ w) ws p w f)
      ∙ ap (λ z. Some (z ∷ w)) h
  get-fronts ws (y ∷ ys) (suc k) p x w e f =
      let l = length-map (λ w. y ∷ w) ws in
      let z : suc k * length ws + p ≡ length (map (λ w. y ∷ w) ws) + (k * length ws + p) = omega (arith, l) in
      ap (slice_get (map (λ (w : List X). y ∷ w) ws ++ flat_map (λ (x : X). map (λ (w : List X). x ∷ w) ws) ys)) z
      ∙ get-right (map (λ w. y ∷ w) ws) (flat_map (λ (x : X). map (λ (w : List X). x ∷ w) ws) ys) (k * length ws + p)
      ∙ get-fronts ws ys k p x w e f

-- ---- an index at its place

pub not_below : (n low k : ℕ) → In k (numbers_from low n) → low ≤ k
not_below zero low k h = absurd h
not_below (suc n) low k (inl e) = omega (arith, e)
not_below (suc n) low k (inr h) = let l = not_below n (low + 1) k h in omega (arith, l)

get-number : (n low k : ℕ) → In k (numbers_from low n) → slice_get (numbers_from low n) (k - low) ≡ Some k
get-number zero low k h = absurd h
get-number (suc n) low k (inl e) = let z : k - low ≡ 0 = omega (arith, e) in ap (slice_get (numbers_from low (suc n))) z ∙ ap Some e
get-number (suc n) low k (inr h) =
    let l = not_below n (low + 1) k h in
    let z : k - low ≡ suc (k - (low + 1)) = omega (arith, l) in
    ap (slice_get (numbers_from low (suc n))) z ∙ get-number n (low + 1) k h

pub all-fit : (ks : List ℕ) → filter (λ k. fits computed (number k)) ks ≡ ks
all-fit [] = refl
all-fit (k ∷ ks) = ap (λ l. k ∷ l) (all-fit ks)

get-digit : (o : Simple) (i : Index) (x : Option ℕ) → In x (at_index o i) → slice_get (at_index o computed) (digit o x) ≡ Some x
get-digit (Range low high) i x h = at (in-mapped Some x (filter (λ k. fits i (number k)) ks) h)
  where
    ks : List ℕ
    ks = numbers_from low (high + 1 - low)

    at : (k : ℕ) × In k (filter (λ k. fits i (number k)) ks) × (Some k ≡ x) → slice_get (at_index (Range low high) computed) (digit (Range low high) x) ≡ Some x
    at r =
        ap (λ x. slice_get (at_index (Range low high) computed) (digit (Range low high) x)) (sym r.2)
        ∙ ap (λ l. slice_get (map Some l) (r.0 - low)) (all-fit ks)
        ∙ get-map Some ks (r.0 - low) r.0 (get-number (high + 1 - low) low r.0 (in-filtered (λ k. fits i (number k)) r.0 ks r.1).0)
        ∙ ap Some r.2
get-digit (Enum list) i x h = at (is_constant i) h
  where
    at : (b : Bool) → In x (cond b [] (None ∷ [])) → Some None ≡ Some x
    at true g = absurd g
    at false (inl e) = ap Some e
    at false (inr g) = absurd g
get-digit (Set set) i x h = at (is_constant i) h
  where
    at : (b : Bool) → In x (cond b [] (None ∷ [])) → Some None ≡ Some x
    at true g = absurd g
    at false (inl e) = ap Some e
    at false (inr g) = absurd g

-- ---- a list of indexes at its place

get-empty : (over : List Simple) (js : List (Option ℕ)) → [] ≡ js → slice_get (every over) (place over js) ≡ Some js
get-empty [] js e = ap Some e
get-empty (o ∷ over) js e = ap (λ js. slice_get (every (o ∷ over)) (place (o ∷ over) js)) (sym e) ∙ ap Some e

pub get-place : (over : List Simple) (is : List Index) (js : List (Option ℕ)) → In js (picked over is) → slice_get (every over) (place over js) ≡ Some js
get-place [] is js (inl e) = get-empty [] js e
get-place [] is js (inr h) = absurd h
get-place (o ∷ over) [] js (inl e) = get-empty (o ∷ over) js e
get-place (o ∷ over) [] js (inr h) = absurd h
get-place (o ∷ over) (i ∷ is) js h = at (λ xs g. get-place over is xs g) (in-flat_mapped (λ x. map (λ xs. x ∷ xs) (picked over is)) js (at_index o i) h)
  where
    at : ((xs : List (Option ℕ)) → In xs (picked over is) → slice_get (every over) (place over xs) ≡ Some xs) → (x : Option ℕ) × In x (at_index o i) × In js (map (λ xs. x ∷ xs) (picked over is)) → slice_get (every (o ∷ over)) (place (o ∷ over) js) ≡ Some js
    at rest r =
        let s = in-mapped (λ xs. r.0 ∷ xs) js (picked over is) r.2 in
        ap (λ js. slice_get (every (o ∷ over)) (place (o ∷ over) js)) (sym s.2)
        ∙ ap (slice_get (every (o ∷ over))) (one_more (digit o r.0 * length (every over) + place over s.0))
        ∙ get-fronts (every over) (at_index o computed) (digit o r.0) (place over s.0) r.0 s.0 (get-digit o i r.0 r.1) (rest s.0 s.1)
        ∙ ap Some s.2
      where
        one_more : (n : ℕ) → 1 + n ≡ suc n
        one_more n = omega arith

-- ---- a cell at its number

abbrev cell_of : ℕ → List (Option ℕ) → Cell
cell_of family indexes = record { family = family; indexes = indexes }

-- the cells of these families, with all fronts, of which the first has this number
abbrev pub table_from : ℕ → List Family → List Cell
table_from k [] = []
table_from k (f ∷ families) = map (cell_of k) (every f.over) ++ table_from (k + 1) families

pub length-table : (k : ℕ) (families : List Family) → length (table_from k families) ≡ base families (length families)
length-table k [] = refl
length-table k (f ∷ families) =
    let l = length-append (map (cell_of k) (every f.over)) (table_from (k + 1) families) in
    let m = length-map (cell_of k) (every f.over) in
    let e = length-table (k + 1) families in
    omega (arith, l, m, e)

get-family : (families : List Family) (first k p : ℕ) (f : Family) (js : List (Option ℕ)) → slice_get families k ≡ Some f → slice_get (every f.over) p ≡ Some js → slice_get (table_from first families) (base families k + p) ≡ Some (cell_of (first + k) js)
get-family [] first k p f js e g = absurd (cc)
get-family (h ∷ families) first zero p f js e g =
    let same : f ≡ h = cc in
    let z : 0 + p ≡ p = omega arith in
    let n : first ≡ first + 0 = omega arith in
    ap (slice_get (map (cell_of first) (every h.over) ++ table_from (first + 1) families)) z
    ∙ get-left (map (cell_of first) (every h.over)) (table_from (first + 1) families) p (cell_of first js) (get-map (cell_of first) (every h.over) p js (ap (λ (f : Family). slice_get (every f.over) p) (sym same) ∙ g))
    ∙ ap (λ k. Some (cell_of k js)) n
get-family (h ∷ families) first (suc k) p f js e g =
    let l = length-map (cell_of first) (every h.over) in
    let z : length (every h.over) + base families k + p ≡ length (map (cell_of first) (every h.over)) + (base families k + p) = omega (arith, l) in
    let n : first + 1 + k ≡ first + suc k = omega arith in
    ap (slice_get (map (cell_of first) (every h.over) ++ table_from (first + 1) families)) z
    ∙ get-right (map (cell_of first) (every h.over)) (table_from (first + 1) families) (base families k + p)
    ∙ get-family families (first + 1) k p f js e g
    ∙ ap (λ k. Some (cell_of k js)) n

module _ (families : List Family) where
  get-cell : (family : ℕ) (is : List Index) (c : Cell) (f : Option Family) → slice_get families family ≡ f → In c (cells_of f family is) → slice_get (table_from 0 families) (number_in families c) ≡ Some c
  get-cell family is c None e h = absurd h
  get-cell family is c (Some f) e h =
      let r = in-mapped (cell_of family) c (picked f.over is) h in
      let n : 0 + family ≡ family = omega arith in
      ap (λ c. slice_get (table_from 0 families) (number_in families c)) (sym r.2)
      ∙ ap (λ g. slice_get (table_from 0 families) (base families family + place (over_of g) r.0)) e
      ∙ get-family families 0 family (place f.over r.0) f r.0 e (get-place f.over is r.0 r.1)
      ∙ ap (λ k. Some (cell_of k r.0)) n
      ∙ ap Some r.2

  pub get-from : (a : Reading) (c : Cell) → In c (froms families a) → slice_get (table_from 0 families) (number_in families c) ≡ Some c
  get-from a c h = get-cell a.family a.left c (slice_get families a.family) refl h

  pub get-to : (a : Reading) (c : Cell) → In c (tos families a) → slice_get (table_from 0 families) (number_in families c) ≡ Some c
  get-to a c h =
      let r = in-flat_mapped (reads_of families) c a.reads h in
      get-cell r.0.family r.0.indexes c (slice_get families r.0.family) refl r.2
