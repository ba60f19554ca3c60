-- The links of assignments, and the first assignment with which there is a loop.
use Rattle.std.specs.Prelude.{◌≡◌, ℕ, ◌+◌, ◌<◌, List, [], ◌∷◌, ◌++◌, length, map, flat_map, take, true, false}
use Rattle.std.specs.List.{All}
use Rattle.smv_core.specs.declared.flat.Family.{Family}
use Rattle.law_designs.specs.Reading.{Reading}
use Rattle.law_designs.specs.Loops.{Edge, hold_a_cycle}
use Rattle.smv_loops.specs.declared.ranks.Links.{Links}
use Rattle.smv_loops.specs.Cells.{base, number_in, froms, tos}

-- how many cells there are: the numbers from this on are those of rows
abbrev pub total : List Family → ℕ
total families = base families (length families)

-- ---- what numbers stand for: that of a cell for itself alone, that of a row for its cells

-- the links of a row lead from its number to smaller ones, which stand for the same cells
pub record IsRowLink (stands : ℕ → List ℕ) (n : ℕ) (link : Links) : Type 0 where
  pub from : link.from.items ≡ n ∷ []
  pub to : flat_map stands link.to.items ≡ stands n
  pub below : All (λ t. t < n) link.to.items

-- those of rows, of which the first has this number
abbrev pub AreRowLinks : (ℕ → List ℕ) → ℕ → List Links → Type 0
AreRowLinks stands n [] = Unit {0}
AreRowLinks stands n (link ∷ links) = IsRowLink stands n link × AreRowLinks stands (n + 1) links

-- the links of an assignment lead from its cells to numbers that stand for the cells that it reads
pub record AreLinks (families : List Family) (stands : ℕ → List ℕ) (nodes : ℕ) (link : Links) (a : Reading) : Type 0 where
  pub from : link.from.items ≡ map (number_in families) (froms families a)
  pub to : flat_map stands link.to.items ≡ map (number_in families) (tos families a)
  pub below : All (λ t. t < nodes) link.to.items

-- those of each, side by side
abbrev pub AllLinks : List Family → (ℕ → List ℕ) → ℕ → List Links → List Reading → Type 0
AllLinks families stands nodes [] [] = Unit {0}
AllLinks families stands nodes [] (a ∷ more) = ⊥
AllLinks families stands nodes (link ∷ links) [] = ⊥
AllLinks families stands nodes (link ∷ links) (a ∷ more) = AreLinks families stands nodes link a × AllLinks families stands nodes links more

-- the links of these assignments came behind others
pub record AreAdded (families : List Family) (stands : ℕ → List ℕ) (nodes : ℕ) (old new : List Links) (readings : List Reading) : Type 0 where
  pub own : List Links
  pub split : new ≡ old ++ own
  pub links : AllLinks families stands nodes own readings

-- links of so many rows, and behind them those of these assignments
pub record AreShown (families : List Family) (rows : ℕ) (links : List Links) (readings : List Reading) : Type 0 where
  pub stands : ℕ → List ℕ
  pub of_rows : List Links
  pub own : List Links
  pub split : links ≡ of_rows ++ own
  pub count : length of_rows ≡ rows
  pub alone : (n : ℕ) → n < total families → stands n ≡ n ∷ []
  pub row_links : AreRowLinks stands (total families) of_rows
  pub own_links : AllLinks families stands (total families + rows) own readings

-- the edges of an assignment
abbrev pub edges_at : List Family → Reading → List Edge
edges_at families a = flat_map (λ from. map (λ to. (from, to)) (tos families a)) (froms families a)

-- with this assignment there is a loop, and without it there is none
abbrev pub IsFirst : List Family → List Reading → ℕ → Type 0
IsFirst families readings k =
    (k < length readings) × (hold_a_cycle (flat_map (edges_at families) (take k readings)) ≡ false) × (hold_a_cycle (flat_map (edges_at families) (take (k + 1) readings)) ≡ true)
