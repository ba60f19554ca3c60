-- Cells that are sorted by their ranks stand after what they read.
use Rattle.std.proofs.Common.{◌≡◌, ℕ, zero, suc, ◌<◌, ◌≤◌, ◌⊎◌, inl, inr, List, [], ◌∷◌, map, length, get_or, slice_get, Some, refl, ap, ◌∙◌, arith, subst}
use Rattle.std.specs.List.{All}
use Rattle.std.specs.List.Sorted.{IsNonDecreasingBy, IsPermutation}
use Rattle.std.proofs.lemmas.List.Elements.{All-get_or, All-nil, All-cons}
use Rattle.std.proofs.lemmas.List.Sorted.{IsPermutation-map, All-permutation}
use Rattle.smv_core.specs.declared.flat.Family.{Family}
use Rattle.smv_core.specs.declared.flat.Cell.{Cell}
use Rattle.law_designs.specs.Loops.{Edge}
use Rattle.smv_loops.specs.declared.listed.Listed.{Listed}
use Rattle.smv_loops.specs.Cells.{number_in}
use Rattle.smv_loops.specs.Order.{AreAfterTheirReads, listed}
use Rattle.smv_loops.specs.Ranks.{rank}
use Rattle.smv_loops.proofs.Members.{In, in-contains}

abbrev cell_of : Listed → Cell
cell_of x = x.cell

module _ (families : List Family) (ranks : List ℕ) where
  abbrev pub ranked : Cell → ℕ
  ranked c = rank ranks (number_in families c)

  cells-back : (cells : List Cell) → map cell_of (map (listed families ranks) cells) ≡ cells
  cells-back [] = refl
  cells-back (c ∷ cells) = ap (λ l. c ∷ l) (cells-back cells)

  right-ranks : (cells : List Cell) → All (λ (x : Listed). x.rank ≡ ranked x.cell) (map (listed families ranks) cells)
  right-ranks [] = All-nil (λ (x : Listed). x.rank ≡ ranked x.cell)
  right-ranks (c ∷ cells) = All-cons (λ (x : Listed). x.rank ≡ ranked x.cell) (listed families ranks c) (map (listed families ranks) cells) refl (right-ranks cells)

  pub same-cells : (cells : List Cell) (sorted : List Listed) → IsPermutation (map (listed families ranks) cells) sorted → IsPermutation cells (map cell_of sorted)
  same-cells cells sorted same = subst (λ l. IsPermutation l (map cell_of sorted)) (cells-back cells) (IsPermutation-map cell_of (map (listed families ranks) cells) sorted same)

  -- what is listed where a cell stands
  there : (sorted : List Listed) (i : ℕ) (c : Cell) → slice_get (map cell_of sorted) i ≡ Some c → (x : Listed) × (i < length sorted) × (get_or sorted i x ≡ x) × (x.cell ≡ c)
  there [] i c got = cc
  there (x ∷ xs) zero c got = let it : x.cell ≡ c = cc in (x, omega arith, refl, it)
  there (x ∷ xs) (suc i) c got = let r = there xs i c got in (r.0, (let l = r.1 in omega (arith, l)), r.2, r.3)

  pub after-reads : (cells : List Cell) (sorted : List Listed) (edges : List Edge) → IsPermutation (map (listed families ranks) cells) sorted → IsNonDecreasingBy (λ (x : Listed). x.rank) sorted → ((e : Edge) → In e edges → ranked e.1 < ranked e.0) → AreAfterTheirReads edges (map cell_of sorted)
  after-reads cells sorted edges same up falls i j from to has got_from got_to = by (cases-lt j i)
    where
      cases-lt : (a b : ℕ) → (a < b) ⊎ (b ≤ a)
      cases-lt zero zero = inr (omega arith)
      cases-lt zero (suc b) = inl (omega arith)
      cases-lt (suc a) zero = inr (omega arith)
      cases-lt (suc a) (suc b) = elim (cases-lt a b) [ inl h ↦ inl (omega (arith, h)) | inr h ↦ inr (omega (arith, h)) ]

      right : All (λ (x : Listed). x.rank ≡ ranked x.cell) sorted
      right = All-permutation (λ (x : Listed). x.rank ≡ ranked x.cell) (map (listed families ranks) cells) sorted same (right-ranks cells)

      rank-at : (k : ℕ) (x : Listed) (c : Cell) → k < length sorted → get_or sorted k x ≡ x → x.cell ≡ c → x.rank ≡ ranked c
      rank-at k x c l e s = subst (λ (y : Listed). y.rank ≡ ranked y.cell) e (All-get_or (λ (x : Listed). x.rank ≡ ranked x.cell) sorted k x l right) ∙ ap ranked s

      by : (j < i) ⊎ (i ≤ j) → j < i
      by (inl h) = h
      by (inr h) =
          let a = there sorted i from got_from in
          let b = there sorted j to got_to in
          let x : Listed = a.0 in
          let y : Listed = b.0 in
          let here : get_or sorted i y ≡ x = same-read sorted i x y a.1 a.2 in
          let r : x.rank ≡ ranked from = rank-at i x from a.1 a.2 a.3 in
          let s : y.rank ≡ ranked to = rank-at j y to b.1 b.2 b.3 in
          let le = up i j y h b.1 in
          let p : (get_or sorted i y).rank ≡ x.rank = ap (λ (z : Listed). z.rank) here in
          let q : (get_or sorted j y).rank ≡ y.rank = ap (λ (z : Listed). z.rank) b.2 in
          let less = falls (from, to) (in-contains edges (from, to) has) in
          absurd (omega (arith, le, p, q, r, s, less))
        where
          same-read : (xs : List Listed) (k : ℕ) (x d : Listed) → k < length xs → get_or xs k x ≡ x → get_or xs k d ≡ x
          same-read [] k x d l e = absurd (omega (arith, l))
          same-read (z ∷ xs) zero x d l e = e
          same-read (z ∷ xs) (suc k) x d l e = same-read xs k x d (omega (arith, l)) e
