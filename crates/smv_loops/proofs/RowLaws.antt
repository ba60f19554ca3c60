-- What numbers stand for, and rows whose indexes may be the same numbers.
use Rattle.std.proofs.Common.{◌≡◌, ℕ, zero, suc, ◌+◌, ◌-◌, ◌<◌, ◌≤◌, inl, inr, List, [], ◌∷◌, ◌++◌, map, length, get_or, take, drop, slice_get, Option, Some, None, Result, Ok, Err, false, cond, refl, sym, ap, ◌∙◌, arith}
use Rattle.std.specs.List.{flat_map, All}
use Rattle.std.specs.Result.{OnOk}
use Rattle.std.proofs.lemmas.List.{append-nil}
use Rattle.std.proofs.lemmas.List.Concat.{flat_map-append}
use Rattle.std.proofs.lemmas.List.Elements.{All-nil, All-cons, All-append}
use Rattle.law_lists.proofs.Numbers.{nat_lt-true, nat_lt-false}
use Rattle.smv_core.specs.Assignments.{Index, fixed, bare, computed}
use Rattle.smv_core.specs.declared.flat.Simple.{Simple}
use Rattle.smv_core.specs.declared.flat.Simple.TheVariants.{Range, Enum, Set}
use Rattle.smv_core.specs.declared.flat.Family.{Family}
use Rattle.smv_core.specs.declared.flat.Cell.{Cell}
use Rattle.law_designs.specs.Loops.{at_index, is_constant, cells_of}
use Rattle.law_designs.specs.Reading.{Reading}
use Rattle.smv_indexes.specs.declared.Index.{Index as HeldIndex}
use Rattle.smv_loops.specs.declared.ranks.Links.{Links}
use Rattle.smv_loops.specs.declared.rows.Row.{Row}
use Rattle.smv_loops.specs.Cells.{picked, number_in}
use Rattle.smv_loops.specs.Edges.{total, IsRowLink, AreRowLinks}
use Rattle.smv_indexes.specs.Indexes.{index_of}
use Rattle.smv_loops.specs.Rows.{IsRow, row_at, stands_for}
use Rattle.smv_loops.proofs.Members.{In}
use Rattle.smv_loops.proofs.Slices.{split}
use Rattle.smv_loops.proofs.TableLaws.{table_from, length-table, get-from, get-inside}

-- ---- indexes that may be the same numbers

pub any-alike : (i j : Index) → is_constant i ≡ false → is_constant j ≡ false → (over : Simple) → at_index over i ≡ at_index over j
any-alike (fixed u) j p q over = absurd (cc)
any-alike (bare v) (fixed u) p q over = absurd (cc)
any-alike computed (fixed u) p q over = absurd (cc)
any-alike (bare v) (bare w) p q (Range low high) = refl
any-alike (bare v) (bare w) p q (Enum list) = refl
any-alike (bare v) (bare w) p q (Set set) = refl
any-alike (bare v) computed p q (Range low high) = refl
any-alike (bare v) computed p q (Enum list) = refl
any-alike (bare v) computed p q (Set set) = refl
any-alike computed (bare w) p q (Range low high) = refl
any-alike computed (bare w) p q (Enum list) = refl
any-alike computed (bare w) p q (Set set) = refl
any-alike computed computed p q over = refl

pub picked-alike : (i j : Index) (is js : List Index) → ((over : Simple) → at_index over i ≡ at_index over j) → ((over : List Simple) → picked over is ≡ picked over js) → (over : List Simple) → picked over (i ∷ is) ≡ picked over (j ∷ js)
picked-alike i j is js h k [] = refl
picked-alike i j is js h k (o ∷ over) =
    ap (λ (xs : List (Option ℕ)). flat_map (λ x. map (λ ys. x ∷ ys) (picked over is)) xs) (h o)
    ∙ ap (λ (ws : List (List (Option ℕ))). flat_map (λ x. map (λ ys. x ∷ ys) ws) (at_index o j)) (k over)

-- lists with first indexes, as patterns on slices have their parts
pub alike-split : (left right : List HeldIndex) (d e : HeldIndex) → 1 ≤ length left → 1 ≤ length right → ((over : Simple) → at_index over (index_of (get_or left 0 d)) ≡ at_index over (index_of (get_or right 0 e)))
    → ((over : List Simple) → picked over (map index_of (take (length left - 1) (drop 1 left))) ≡ picked over (map index_of (take (length right - 1) (drop 1 right)))) → (over : List Simple) → picked over (map index_of left) ≡ picked over (map index_of right)
alike-split left right d e l m h k over =
    ap (λ (xs : List HeldIndex). picked over (map index_of xs)) (split left d l)
    ∙ picked-alike (index_of (get_or left 0 d)) (index_of (get_or right 0 e)) (map index_of (take (length left - 1) (drop 1 left))) (map index_of (take (length right - 1) (drop 1 right))) h k over
    ∙ sym (ap (λ (xs : List HeldIndex). picked over (map index_of xs)) (split right e m))

abbrev cell_of : ℕ → List (Option ℕ) → Cell
cell_of family indexes = record { family = family; indexes = indexes }

pub cells-alike : (f : Option Family) (family : ℕ) (is js : List Index) → ((over : List Simple) → picked over is ≡ picked over js) → cells_of f family is ≡ cells_of f family js
cells-alike None family is js h = refl
cells-alike (Some f) family is js h = ap (map (cell_of family)) (h f.over)

-- ---- what numbers stand for

module _ (families : List Family) where
  pub cells-below : (family : ℕ) (is : List Index) (c : Cell) → In c (cells_of (slice_get families family) family is) → number_in families c < total families
  cells-below family is c i =
      let a : Reading = record { family = family; left = is; reads = []; place = 0; at = 0 } in
      let l = get-inside (table_from 0 families) (number_in families c) c (get-from families a c i) in
      let t = length-table 0 families in
      omega (arith, l, t)

  pub numbers-below : (family : ℕ) (is : List Index) → All (λ t. t < total families) (map (number_in families) (cells_of (slice_get families family) family is))
  numbers-below family is = all-mapped (cells_of (slice_get families family) family is) (cells-below family is)
    where
      all-mapped : (cs : List Cell) → ((c : Cell) → In c cs → number_in families c < total families) → All (λ t. t < total families) (map (number_in families) cs)
      all-mapped [] h = All-nil (λ t. t < total families)
      all-mapped (c ∷ cs) h = All-cons (λ t. t < total families) (number_in families c) (map (number_in families) cs) (h c (inl refl)) (all-mapped cs (λ d i. h d (inr i)))

  module _ (rows : List Row) where
    abbrev stands : ℕ → List ℕ
    stands = stands_for families rows

    pub stands-alone : (n : ℕ) → n < total families → stands n ≡ n ∷ []
    stands-alone n l = ap (λ b. cond b (n ∷ []) (row_at rows (n - total families))) (nat_lt-true n (total families) l)

    pub stands-row : (place : ℕ) → stands (total families + place) ≡ row_at rows place
    stands-row place =
        let e : total families + place - total families ≡ place = omega arith in
        ap (λ b. cond b ((total families + place) ∷ []) (row_at rows (total families + place - total families))) (nat_lt-false (total families + place) (total families) (omega arith))
        ∙ ap (row_at rows) e

    pub numbers-alone : (ns : List ℕ) → All (λ t. t < total families) ns → flat_map stands ns ≡ ns
    numbers-alone [] h = refl
    numbers-alone (n ∷ ns) h =
        ap (λ l. l ++ flat_map stands ns) (stands-alone n (h 0 n (omega arith)))
        ∙ ap (λ l. n ∷ l) (numbers-alone ns (λ j d l. h (suc j) d (omega (arith, l))))

    pub push-numbers : (out more new : List ℕ) → All (λ t. t < total families) more → new ≡ out ++ more → flat_map stands new ≡ flat_map stands out ++ more
    push-numbers out more new h e = ap (flat_map stands) e ∙ flat_map-append stands out more ∙ ap (λ l. flat_map stands out ++ l) (numbers-alone more h)

    pub push-row : (out new cells : List ℕ) (n place : ℕ) → n ≡ total families + place → row_at rows place ≡ cells → new ≡ out ++ n ∷ [] → flat_map stands new ≡ flat_map stands out ++ cells
    push-row out new cells n place m r e =
        ap (flat_map stands) e ∙ flat_map-append stands out (n ∷ [])
        ∙ ap (λ l. flat_map stands out ++ l) (append-nil (stands n) ∙ ap stands m ∙ stands-row place ∙ r)

-- ---- after a call

pub on-ok : {X E : Type 0} (r : Result X E) (P Q : Type 0) → (P → Q) → OnOk r P → OnOk r Q
on-ok (Ok x) P Q f h = f h
on-ok (Err e) P Q f h = tt

-- ---- bounds

pub all-more : (m : ℕ) (out more new : List ℕ) → All (λ t. t < m) out → All (λ t. t < m) more → new ≡ out ++ more → All (λ t. t < m) new
all-more m out more new h k e = rw e (All-append (λ t. t < m) out more h k)

pub all-one : (m n : ℕ) → n < m → All (λ t. t < m) (n ∷ [])
all-one m n l = All-cons (λ t. t < m) n [] l (All-nil (λ t. t < m))

pub all-weaker : (m n : ℕ) (xs : List ℕ) → m ≤ n → All (λ t. t < m) xs → All (λ t. t < n) xs
all-weaker m n xs l h j d k = let p : get_or xs j d < m = h j d k in omega (arith, p, l)

-- ---- rows at their places

pub row-at-is : (rows : List Row) (place : ℕ) (row : Row) → place < length rows → row ≡ get_or rows place row → row_at rows place ≡ row.cells.items
row-at-is [] place row l e = absurd (omega (arith, l))
row-at-is (x ∷ rows) zero row l e = ap (λ (r : Row). r.cells.items) (sym e)
row-at-is (x ∷ rows) (suc place) row l e = row-at-is rows place row (omega (arith, l)) e

module _ (families : List Family) (rows : List Row) (all : All (IsRow families) rows) where
  pub row-is : (place : ℕ) (row : Row) → place < length rows → row ≡ get_or rows place row → IsRow families row
  row-is place row l e = rw e (all place row l)

  row-below : (row : Row) → IsRow families row → All (λ t. t < total families) row.cells.items
  row-below row h = rw h (numbers-below families row.family (map index_of row.indexes.items))

  -- the links of the row at a place
  pub row-link : (place : ℕ) (row : Row) (node : ℕ) (link : Links) → place < length rows → row ≡ get_or rows place row → node ≡ total families + place → link.from.items ≡ node ∷ [] → link.to.items ≡ row.cells.items → IsRowLink (stands_for families rows) node link
  row-link place row node link l e n f t =
      let b = row-below row (row-is place row l e) in
      record {
        from = f;
        to = ap (flat_map (stands_for families rows)) t ∙ numbers-alone families rows row.cells.items b ∙ sym (row-at-is rows place row l e) ∙ sym (ap (stands_for families rows) n ∙ stands-row families rows place);
        below = rw t (all-weaker (total families) node row.cells.items (omega (arith, n)) b);
      }

pub row-links-push : (stands : ℕ → List ℕ) (n : ℕ) (links : List Links) (m : ℕ) (link : Links) → AreRowLinks stands n links → m ≡ n + length links → IsRowLink stands m link → AreRowLinks stands n (links ++ link ∷ [])
row-links-push stands n [] m link h e l = (same_row (omega (arith, e)) l, tt)
  where
    same_row : m ≡ n → IsRowLink stands m link → IsRowLink stands n link
    same_row e g = rw e at g
row-links-push stands n (x ∷ links) m link h e l = (h.0, row-links-push stands (n + 1) links m link h.1 (omega (arith, e)) l)
