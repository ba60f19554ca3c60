-- The lists of what cells have at their indexes, made one after another.
use Rattle.std.proofs.Common.{◌≡◌, ℕ, zero, suc, ◌+◌, ◌-◌, ◌<◌, ◌≤◌, List, [], ◌∷◌, ◌++◌, map, length, get_or, slice_get, take, Option, Some, refl, sym, ap, ◌∙◌, arith}
use Rattle.std.specs.Global.{Vec}
use Rattle.std.proofs.lemmas.List.{map-append, append-nil, append_assoc, take_all}
use Rattle.law_lists.proofs.Places.{take_read}
use Rattle.smv_core.specs.Values.{numbers_from}
use Rattle.smv_core.specs.Assignments.{computed}
use Rattle.smv_core.specs.declared.flat.Simple.{Simple}
use Rattle.smv_core.specs.declared.flat.Simple.TheVariants.{Range}
use Rattle.smv_core.specs.declared.flat.Family.{Family}
use Rattle.smv_core.specs.declared.flat.Cell.{Cell}
use Rattle.law_designs.specs.Loops.{at_index}
use Rattle.smv_loops.specs.declared.listed.Listed.{Listed}
use Rattle.smv_loops.specs.Order.{every_way, cells_in, cells_from, lists_of}
use Rattle.smv_loops.proofs.TableLaws.{all-fit}
use Rattle.smv_loops.proofs.NumberLaws.{numbers-more}

-- ---- what a cell may have at an index

pub at-Range : (low high : ℕ) → at_index (Range low high) computed ≡ map Some (numbers_from low (high + 1 - low))
at-Range low high = ap (map Some) (all-fit (numbers_from low (high + 1 - low)))

pub one-number : (low k : ℕ) (out new : List (Option ℕ)) → low ≤ k → out ≡ map Some (numbers_from low (k - low)) → new ≡ out ++ Some k ∷ [] → new ≡ map Some (numbers_from low (k + 1 - low))
one-number low k out new le so_far is =
    let n : k + 1 - low ≡ suc (k - low) = omega arith in
    let m : low + (k - low) ≡ k = omega arith in
    is ∙ ap (λ l. l ++ Some k ∷ []) so_far ∙ ap (λ j. map Some (numbers_from low (k - low)) ++ Some j ∷ []) (sym m) ∙ sym (map-append Some (numbers_from low (k - low)) ((low + (k - low)) ∷ [])) ∙ ap (map Some) (sym (numbers-more low (k - low))) ∙ ap (λ n. map Some (numbers_from low n)) (sym n)

abbrev pub cell_at : ℕ → List (Option ℕ) → Cell
cell_at k is = record { family = k; indexes = is }

module _ (h : Cell → Listed) (k : ℕ) where
  family-more : (before : List (List (Option ℕ))) (list : List (Option ℕ)) → map h (map (cell_at k) (before ++ list ∷ [])) ≡ map h (map (cell_at k) before) ++ h (cell_at k list) ∷ []
  family-more before list = ap (map h) (map-append (cell_at k) before (list ∷ [])) ∙ map-append h (map (cell_at k) before) (cell_at k list ∷ [])

  -- the cell of one more list
  pub list-more : (items : List (Vec (Option ℕ))) (i : ℕ) (list : Vec (Option ℕ)) (start out new : List Listed) (cell : Listed) → i < length items → list ≡ get_or items i list → out ≡ start ++ map h (map (cell_at k) (lists_of (take i items))) → cell ≡ h (cell_at k list.items) → new ≡ out ++ cell ∷ []
      → new ≡ start ++ map h (map (cell_at k) (lists_of (take (i + 1) items)))
  list-more items i list start out new cell l e so_far here is =
      is ∙ ap (λ o. o ++ cell ∷ []) so_far ∙ append_assoc start (map h (map (cell_at k) (lists_of (take i items)))) (cell ∷ [])
      ∙ ap (λ l. start ++ l) (
      ap (λ c. map h (map (cell_at k) (lists_of (take i items))) ++ c ∷ []) here ∙ sym (family-more (lists_of (take i items)) list.items)
      ∙ ap (λ l. map h (map (cell_at k) l)) (sym (map-append (λ (list : Vec (Option ℕ)). list.items) (take i items) (list ∷ [])) ∙ ap lists_of (sym (take_read items i list l e)))
      )

  -- the cells of a family
  pub list-all : (f : Family) (over : List Simple) (items : List (Vec (Option ℕ))) (n : ℕ) (start out : List Listed) → length items ≤ n → lists_of items ≡ every_way over → over ≡ f.over → out ≡ start ++ map h (map (cell_at k) (lists_of (take n items))) → out ≡ start ++ map h (cells_in k f)
  list-all f over items n start out l e same so_far = so_far ∙ ap (λ ls. start ++ map h (map (cell_at k) ls)) (ap lists_of (take_all n items l) ∙ e ∙ ap every_way same)

pub over-same : (families : List Family) (k : ℕ) (f g : Family) → slice_get families k ≡ Some f → slice_get families k ≡ Some g → f.over ≡ g.over
over-same families k f g e d = let same : f ≡ g = cc in ap (λ (f : Family). f.over) same

-- ---- the cells of families

from-more : (k : ℕ) (families : List Family) (f : Family) → cells_from k (families ++ f ∷ []) ≡ cells_from k families ++ cells_in (k + length families) f
from-more k [] f = append-nil (cells_in k f) ∙ (let e : k ≡ k + 0 = omega arith in ap (λ n. cells_in n f) e)
from-more k (g ∷ families) f =
    let e : k + 1 + length families ≡ k + suc (length families) = omega arith in
    ap (λ l. cells_in k g ++ l) (from-more (k + 1) families f ∙ ap (λ n. cells_from (k + 1) families ++ cells_in n f) e) ∙ sym (append_assoc (cells_in k g) (cells_from (k + 1) families) (cells_in (k + suc (length families)) f))

length-take : {X : Type 0} (xs : List X) (i : ℕ) → i ≤ length xs → length (take i xs) ≡ i
length-take [] zero l = refl
length-take [] (suc i) l = absurd (omega (arith, l))
length-take (x ∷ xs) zero l = refl
length-take (x ∷ xs) (suc i) l = ap suc (length-take xs i (omega (arith, l)))

-- the cells of one more family
pub all-more : (h : Cell → Listed) (families : List Family) (i : ℕ) (f : Family) (out new : List Listed) → i < length families → f ≡ get_or families i f → out ≡ map h (cells_from 0 (take i families)) → new ≡ out ++ map h (cells_in i f) → new ≡ map h (cells_from 0 (take (i + 1) families))
all-more h families i f out new l e so_far is =
    let n : i ≡ 0 + length (take i families) = let t = length-take families i (omega (arith, l)) in omega (arith, t) in
    is ∙ ap (λ o. o ++ map h (cells_in i f)) so_far ∙ sym (map-append h (cells_from 0 (take i families)) (cells_in i f))
    ∙ ap (map h) (ap (λ n. cells_from 0 (take i families) ++ cells_in n f) n ∙ sym (from-more 0 (take i families) f) ∙ ap (cells_from 0) (sym (take_read families i f l e)))

pub some-at : {X : Type 0} (xs : List X) (i : ℕ) → i < length xs → (x : X) × (slice_get xs i ≡ Some x) × (x ≡ get_or xs i x)
some-at [] i l = absurd (omega (arith, l))
some-at (x ∷ xs) zero l = (x, refl, refl)
some-at (x ∷ xs) (suc i) l = some-at xs i (omega (arith, l))
