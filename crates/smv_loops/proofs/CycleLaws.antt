-- Ranks of numbered cells say whether edges hold a cycle.
use Rattle.std.proofs.Common.{◌≡◌, ℕ, ◌<◌, inl, inr, List, [], ◌∷◌, ◌++◌, map, filter, length, slice_get, Some, Bool, true, false, ◌&&◌, nat_eq, refl, sym, ap, ◌∙◌, arith}
use Rattle.std.specs.List.{flat_map}
use Rattle.std.proofs.lemmas.Option.{slice_get_within}
use Rattle.law_lists.proofs.Booleans.{and_both}
use Rattle.law_lists.proofs.Options.{some_is}
use Rattle.smv_core.specs.declared.flat.Cell.{Cell}
use Rattle.smv_core.specs.declared.flat.Family.{Family}
use Rattle.law_designs.specs.Reading.{Reading}
use Rattle.law_designs.specs.Loops.{Edge, same_cell, leads_on, hold_a_cycle}
use Rattle.law_designs.specs.LoopLaws.{AreFalling}
use Rattle.law_designs.proofs.Cycles.{none_is_missed}
use Rattle.law_designs.proofs.Orders.{order, indexes_themselves}
use Rattle.law_designs.proofs.Descents.{no_cycle}
use Rattle.smv_loops.specs.Ranks.{rank}
use Rattle.smv_loops.specs.Cells.{number_in, froms, tos}
use Rattle.smv_loops.specs.Edges.{edges_at}
use Rattle.smv_loops.proofs.Members.{In, in-filter, in-filtered, filter-all, any-of, some-in, in-map, in-mapped, in-flat_map, in-flat_mapped}

-- ---- falling edges

falling-append : (rank : Cell → ℕ) (xs ys : List Edge) → AreFalling rank xs → AreFalling rank ys → AreFalling rank (xs ++ ys)
falling-append rank [] ys f g = g
falling-append rank (x ∷ xs) ys f g = (f.0, falling-append rank xs ys f.1 g)

falling-front : (rank : Cell → ℕ) (xs ys : List Edge) → AreFalling rank (xs ++ ys) → AreFalling rank xs
falling-front rank [] ys f = tt
falling-front rank (x ∷ xs) ys f = (f.0, falling-front rank xs ys f.1)

pub falling-each : (rank : Cell → ℕ) (edges : List Edge) → ((e : Edge) → In e edges → rank e.1 < rank e.0) → AreFalling rank edges
falling-each rank [] h = tt
falling-each rank (e ∷ edges) h = (h e (inl refl), falling-each rank edges (λ f g. h f (inr g)))

-- fewer edges hold no cycle where more hold none
pub fewer-edges : (xs ys : List Edge) → hold_a_cycle (xs ++ ys) ≡ false → hold_a_cycle xs ≡ false
fewer-edges xs ys h = let r = order (xs ++ ys) h in no_cycle xs r.0 (falling-front r.0 xs ys r.1)

-- ---- cells that are the same

right_of : (a : Bool) {b : Bool} → (a && b) ≡ true → b ≡ true
right_of true e = e
right_of false e = absurd (cc)

zero-is : (n : ℕ) → nat_eq n 0 ≡ true → n ≡ 0
zero-is n e = grind arith

itself : (n : ℕ) → nat_eq n n ≡ true
itself n = search arith

cell_itself : (c : Cell) → same_cell c c ≡ true
cell_itself c = and_both (itself c.family) (indexes_themselves c.indexes)

-- ---- the edges of assignments

module _ (families : List Family) where
  abbrev num : Cell → ℕ
  num = number_in families

  edge-in : (a : Reading) (from to : Cell) → In from (froms families a) → In to (tos families a) → In (from, to) (edges_at families a)
  edge-in a from to f t = in-flat_map (λ c. map (λ d. (c, d)) (tos families a)) from (from, to) (froms families a) f (in-map (λ d. (from, d)) to (tos families a) t)

  edge-of : (a : Reading) (e : Edge) → In e (edges_at families a) → In e.0 (froms families a) × In e.1 (tos families a)
  edge-of a e h =
      let r = in-flat_mapped (λ c. map (λ d. (c, d)) (tos families a)) e (froms families a) h in
      let s = in-mapped (λ d. (r.0, d)) e (tos families a) r.2 in
      let p : r.0 ≡ e.0 = ap (λ (x : Edge). x.0) s.2 in
      let q : s.0 ≡ e.1 = ap (λ (x : Edge). x.1) s.2 in
      (same_in (froms families a) p r.1, same_in (tos families a) q s.1)
    where
      same_in : {c d : Cell} (cells : List Cell) → c ≡ d → In c cells → In d cells
      same_in cells p h = rw p at h

  -- some of these numbers has no rank
  abbrev pub HasOpen : List ℕ → List ℕ → Type 0
  HasOpen ranks ds = (d : ℕ) × In d ds × (rank ranks d ≡ 0)

  module _ (cells : ℕ) (ranks : List ℕ) (readings : List Reading) where
    abbrev all_edges : List Edge
    all_edges = flat_map (edges_at families) readings

    abbrev ranked : Cell → ℕ
    ranked c = rank ranks (num c)

    -- what an assignment reads has smaller ranks than what it concerns
    abbrev pub AreFallingAll : Type 0
    AreFallingAll = (a : Reading) → In a readings → (c d : ℕ) → In c (map num (froms families a)) → In d (map num (tos families a)) → rank ranks d < rank ranks c

    -- an assignment concerns the cell and reads one that has no rank
    abbrev pub IsStuck : ℕ → Type 0
    IsStuck cell = (a : Reading) × In a readings × In cell (map num (froms families a)) × HasOpen ranks (map num (tos families a))

    pub edge-falls : AreFallingAll → (e : Edge) → In e all_edges → ranked e.1 < ranked e.0
    edge-falls falling e i =
        let r = in-flat_mapped (edges_at families) e readings i in
        let ends = edge-of r.0 e r.2 in
        falling r.0 r.1 (num e.0) (num e.1) (in-map num e.0 (froms families r.0) ends.0) (in-map num e.1 (tos families r.0) ends.1)

    -- where each cell has a rank there is no cycle
    pub none-held : AreFallingAll → hold_a_cycle all_edges ≡ false
    none-held falling = no_cycle all_edges ranked (falling-each ranked all_edges (edge-falls falling))

    module _ (table : List Cell) (long : length table ≡ cells) (at-from : (a : Reading) (c : Cell) → In c (froms families a) → slice_get table (num c) ≡ Some c) (at-to : (a : Reading) (c : Cell) → In c (tos families a) → slice_get table (num c) ≡ Some c)
        (stuck : (cell : ℕ) → cell < cells → rank ranks cell ≡ 0 → IsStuck cell) where
      abbrev chosen : Edge → Bool
      chosen e = nat_eq (ranked e.0) 0 && nat_eq (ranked e.1) 0

      -- an edge from a cell without a rank to one without
      step : (cell : ℕ) → cell < cells → rank ranks cell ≡ 0 → (e : Edge) × In e all_edges × (num e.0 ≡ cell) × (ranked e.1 ≡ 0) × (slice_get table (num e.0) ≡ Some e.0) × (slice_get table (num e.1) ≡ Some e.1)
      step cell l z =
          let h = stuck cell l z in
          let c = in-mapped num cell (froms families h.0) h.2 in
          let o = h.3 in
          let d = in-mapped num o.0 (tos families h.0) o.1 in
          ((c.0, d.0), in-flat_map (edges_at families) h.0 (c.0, d.0) readings h.1 (edge-in h.0 c.0 d.0 c.1 d.1), c.2, ap (rank ranks) d.2 ∙ o.2, at-from h.0 c.0 c.1, at-to h.0 d.0 d.1)

      is_chosen : (e : Edge) → ranked e.0 ≡ 0 → ranked e.1 ≡ 0 → chosen e ≡ true
      is_chosen e p q = ap (λ r. nat_eq r 0 && nat_eq (ranked e.1) 0) p ∙ ap (λ r. nat_eq r 0) q

      chosen-to : (e : Edge) → chosen e ≡ true → ranked e.1 ≡ 0
      chosen-to e h = zero-is (ranked e.1) (right_of (nat_eq (ranked e.0) 0) h)

      goes_on : (e : Edge) → In e all_edges → chosen e ≡ true → leads_on (filter chosen all_edges) e ≡ true
      goes_on e i h =
          let r = in-flat_mapped (edges_at families) e readings i in
          let t : slice_get table (num e.1) ≡ Some e.1 = at-to r.0 e.1 (edge-of r.0 e r.2).1 in
          let l = slice_get_within table (num e.1) e.1 t in
          let s = step (num e.1) (omega (arith, l, long)) (chosen-to e h) in
          let same : e.1 ≡ s.0.0 = some_is (sym t ∙ ap (slice_get table) (sym s.2) ∙ s.4) in
          any-of (λ (other : Edge). same_cell e.1 other.0) s.0 (filter chosen all_edges) (in-filter chosen s.0 all_edges s.1 (is_chosen s.0 (ap (rank ranks) s.2 ∙ chosen-to e h) s.3)) (ap (same_cell e.1) (sym same) ∙ cell_itself e.1)

      -- where some cell has no rank there is a cycle
      pub one-held : (cell : ℕ) → cell < cells → rank ranks cell ≡ 0 → hold_a_cycle all_edges ≡ true
      one-held cell l z =
          let s = step cell l z in
          none_is_missed all_edges chosen (
            filter-all (leads_on (filter chosen all_edges)) (filter chosen all_edges) (λ e i. let r = in-filtered chosen e all_edges i in goes_on e r.0 r.1),
            some-in s.0 (filter chosen all_edges) (in-filter chosen s.0 all_edges s.1 (is_chosen s.0 (ap (rank ranks) s.2 ∙ z) s.3)),
          )
