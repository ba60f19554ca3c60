-- The cells of a design are listed once each.
use Rattle.std.proofs.Common.{◌≡◌, ◌≢◌, ℕ, zero, suc, ◌+◌, ◌-◌, ◌≤◌, ◌⊎◌, inl, inr, List, [], ◌∷◌, ◌++◌, map, get_or, Option, Some, refl, sym, ap, subst, ◌∙◌, arith}
use Rattle.std.specs.List.{flat_map, AllPairs}
use Rattle.std.proofs.lemmas.List.Kept.{AllPairs-cons}
use Rattle.std.proofs.lemmas.Option.{same_Some}
use Rattle.smv_core.specs.Values.{numbers_from}
use Rattle.smv_core.specs.Assignments.{computed}
use Rattle.smv_core.specs.declared.flat.Simple.{Simple}
use Rattle.smv_core.specs.declared.flat.Simple.TheVariants.{Range, Enum, Set}
use Rattle.smv_core.specs.declared.flat.Family.{Family}
use Rattle.smv_core.specs.declared.flat.Cell.{Cell}
use Rattle.law_designs.specs.Loops.{at_index}
use Rattle.smv_loops.specs.Order.{every_way, cells_in, cells_from}
use Rattle.smv_loops.proofs.Members.{In, in-either, in-get_or, in-mapped, in-flat_mapped}
use Rattle.smv_loops.proofs.TableLaws.{not_below}
use Rattle.smv_loops.proofs.WayLaws.{at-Range, cell_at}

module _ {X : Type 0} where
  -- none stands before itself
  abbrev IsApart : List X → Type 0
  IsApart [] = Unit {0}
  IsApart (x ∷ xs) = (In x xs → ⊥) × IsApart xs

  apart-append : (xs ys : List X) → IsApart xs → IsApart ys → ((x : X) → In x xs → In x ys → ⊥) → IsApart (xs ++ ys)
  apart-append [] ys a b h = b
  apart-append (x ∷ xs) ys a b h = ((λ i. by (in-either x xs ys i)), apart-append xs ys a.1 b (λ y i j. h y (inr i) j))
    where
      by : In x xs ⊎ In x ys → ⊥
      by (inl i) = a.0 i
      by (inr j) = h x (inl refl) j

  in-here : (x y : X) (xs : List X) → x ≡ y → In x xs → In y xs
  in-here x y xs e i = subst (λ z. In z xs) e i

  pub all-pairs : (xs : List X) → IsApart xs → AllPairs (λ (a b : X). a ≢ b) xs
  all-pairs [] a = λ i j d l m. absurd (omega (arith, m))
  all-pairs (x ∷ xs) a = AllPairs-cons (λ (a b : X). a ≢ b) x xs (λ k d l e. a.0 (in-here (get_or xs k d) x xs (sym e) (in-get_or xs k d l))) (all-pairs xs a.1)

apart-map : {X Y : Type 0} (f : X → Y) → ((a b : X) → f a ≡ f b → a ≡ b) → (xs : List X) → IsApart xs → IsApart (map f xs)
apart-map f one [] a = tt
apart-map f one (x ∷ xs) a = ((λ i. let r = in-mapped f (f x) xs i in a.0 (in-here r.0 x xs (one r.0 x r.2) r.1)), apart-map f one xs a.1)

-- ---- lists of indexes

apart-numbers : (n low : ℕ) → IsApart (numbers_from low n)
apart-numbers zero low = tt
apart-numbers (suc n) low = ((λ i. let l = not_below n (low + 1) low i in omega (arith, l)), apart-numbers n (low + 1))

apart-at : (o : Simple) → IsApart (at_index o computed)
apart-at (Range low high) = subst (λ (l : List (Option ℕ)). IsApart l) (sym (at-Range low high)) (apart-map Some same_Some (numbers_from low (high + 1 - low)) (apart-numbers (high + 1 - low) low))
apart-at (Enum list) = ((λ i. i), tt)
apart-at (Set set) = ((λ i. i), tt)

module _ {X : Type 0} where
  tail-one : (x : X) (v w : List X) → x ∷ v ≡ x ∷ w → v ≡ w
  tail-one x v w e = cc

  head-one : (x y : X) (v w : List X) → x ∷ v ≡ y ∷ w → y ≡ x
  head-one x y v w e = cc

  apart-fronts : (ws : List (List X)) → IsApart ws → (xs : List X) → IsApart xs → IsApart (flat_map (λ (x : X). map (λ (w : List X). x ∷ w) ws) xs)
  apart-fronts ws a [] b = tt
  apart-fronts ws a (x ∷ xs) b =
      apart-append (map (λ (w : List X). x ∷ w) ws) (flat_map (λ (x : X). map (λ (w : List X). x ∷ w) ws) xs) (apart-map (λ (w : List X). x ∷ w) (tail-one x) ws a) (apart-fronts ws a xs b.1) (λ l i j. heads l i j)
    where
      heads : (l : List X) → In l (map (λ (w : List X). x ∷ w) ws) → In l (flat_map (λ (x : X). map (λ (w : List X). x ∷ w) ws) xs) → ⊥
      heads l i j =
          let r = in-mapped (λ (w : List X). x ∷ w) l ws i in
          let s = in-flat_mapped (λ (x : X). map (λ (w : List X). x ∷ w) ws) l xs j in
          let t = in-mapped (λ (w : List X). s.0 ∷ w) l ws s.2 in
          b.0 (in-here s.0 x xs (head-one x s.0 r.0 t.0 (r.2 ∙ sym t.2)) s.1)

apart-ways : (over : List Simple) → IsApart (every_way over)
apart-ways [] = ((λ i. i), tt)
apart-ways (o ∷ over) = apart-fronts (every_way over) (apart-ways over) (at_index o computed) (apart-at o)

-- ---- cells

from-later : (k : ℕ) (families : List Family) (c : Cell) → In c (cells_from k families) → k ≤ c.family
from-later k [] c i = absurd i
from-later k (f ∷ families) c i = by (from-later (k + 1) families c) (in-either c (cells_in k f) (cells_from (k + 1) families) i)
  where
    by : (In c (cells_from (k + 1) families) → k + 1 ≤ c.family) → In c (cells_in k f) ⊎ In c (cells_from (k + 1) families) → k ≤ c.family
    by more (inl h) = let r = in-mapped (cell_at k) c (every_way f.over) h in let e = ap (λ (c : Cell). c.family) r.2 in omega (arith, e)
    by more (inr h) = let l = more h in omega (arith, l)

pub apart-cells : (k : ℕ) (families : List Family) → IsApart (cells_from k families)
apart-cells k [] = tt
apart-cells k (f ∷ families) =
    apart-append (cells_in k f) (cells_from (k + 1) families) (apart-map (cell_at k) (λ a b e. ap (λ (c : Cell). c.indexes) e) (every_way f.over) (apart-ways f.over)) (apart-cells (k + 1) families) (λ c i j. later c i j)
  where
    later : (c : Cell) → In c (cells_in k f) → In c (cells_from (k + 1) families) → ⊥
    later c i j =
        let r = in-mapped (cell_at k) c (every_way f.over) i in
        let e = ap (λ (c : Cell). c.family) r.2 in
        let l = from-later (k + 1) families c j in
        omega (arith, e, l)
