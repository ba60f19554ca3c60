-- What a reader of the contracts must believe, with Beads and Graph: a Store is a few numbers and nodes, and its nodes
-- give each live Ref its truth table.
use Rattle.std.specs.Prelude.{◌≡◌, ℕ, ◌<◌, ◌≤◌, ◌⊎◌, Bool, true, ◌==◌, nat_lt, List, [], ◌∷◌, length, slice_index_or}
use Rattle.std.specs.List.{list_any, flat_map, count_by}
use Rattle.bdd_store.specs.declared.chains.Node.{Node}
use Rattle.bdd_store.specs.declared.Ref.{Ref}
use Rattle.bdd_store.specs.Beads.{truth_table, bead_count}
use Rattle.bdd_store.specs.Graph.{Live, walk, below, Reduced, var_at}
use Rattle.bdd_store.specs.Seen.{SeenIs, places_of}

-- calls of `node` that answered Ok; calls of `node` that cannot be refused; the nodes, and which of them are marked
pub record Diagram : Type 0 where
  pub vars : ℕ
  pub calls : ℕ
  pub spare : ℕ
  pub nodes : List Node
  pub marks : List Bool

-- r is a constant or a node of the store
unfoldable pub IsLive : Diagram → Ref → Type 0
IsLive d r = Live d.vars d.nodes r.place

abbrev pub ref_at : List Ref → ℕ → Ref
ref_at rs i = slice_index_or rs i (record { place = 0 })

-- each of several Refs is live
abbrev pub AreLive : Diagram → List Ref → Type 0
AreLive d rs = (i : ℕ) → i < length rs → IsLive d (ref_at rs i)

-- r's truth table: its value at each assignment of the variables
unfoldable pub table : Diagram → Ref → (ℕ → Bool) → Bool
table d r a = walk d.nodes d.vars 0 r.place a == 1

-- the truth tables of several Refs, as lists of values
unfoldable pub tables_of : Diagram → List Ref → List (List Bool)
tables_of d [] = []
tables_of d (r ∷ rs) = truth_table d.vars 0 (table d r) ∷ tables_of d rs

-- what every store keeps; with it equal tables are equal Refs
unfoldable pub IsReduced : Diagram → Type 0
IsReduced d = Reduced d.vars d.nodes

-- live Refs are equal exactly where their tables are
abbrev pub IsCanonical : Diagram → Type 0
IsCanonical d = (r q : Ref) → IsLive d r → IsLive d q → ((a : ℕ → Bool) → table d r a ≡ table d q a) → r ≡ q

-- the first variable on which r's table depends, or the number of variables
unfoldable pub first_var : Diagram → Ref → ℕ
first_var d r = var_at d.nodes r.place

-- r's table is not constant
abbrev pub IsProper : Diagram → Ref → Type 0
IsProper d r = first_var d r < d.vars

-- r's table is this value everywhere
abbrev pub IsConstant : Diagram → Ref → Bool → Type 0
IsConstant d r x = (a : ℕ → Bool) → table d r a ≡ x

-- r's table depends on variables from k on alone
abbrev pub DependsFrom : Diagram → Ref → ℕ → Type 0
DependsFrom d r k = (a c : ℕ → Bool) → ((v : ℕ) → k ≤ v → a v ≡ c v) → table d r a ≡ table d r c

-- r is f, or is reached from f by branches; constants are reached from everywhere
unfoldable pub Reaches : Diagram → Ref → Ref → Type 0
Reaches d f r = IsProper d r → list_any (λ q. r.place == q) (below d.nodes d.vars 0 f.place) ≡ true

-- the number of beads of r's truth table
unfoldable pub beads : Diagram → Ref → ℕ
beads d r = bead_count d.vars (truth_table d.vars 0 (table d r) ∷ [])

-- the number of nodes that are held; constants are no nodes
unfoldable pub held : Diagram → ℕ
held d = count_by (λ (x : Node). nat_lt x.var d.vars) d.nodes

-- each live Ref is live after, with its table
pub record Keeps (old new : Diagram) : Type 0 where
  pub vars : new.vars ≡ old.vars
  pub live : (r : Ref) → IsLive old r → IsLive new r
  pub tables : (r : Ref) → IsLive old r → (a : ℕ → Bool) → table new r a ≡ table old r a
  pub reached : (f r : Ref) → IsLive old f → IsLive old r → Reaches old f r → Reaches new f r
  pub firsts : (r : Ref) → IsLive old r → first_var new r ≡ first_var old r

-- the tables marked since the last clear are those of fs: what fs reach is marked, and nothing else
unfoldable pub HasMarks : Diagram → List Ref → Type 0
HasMarks d fs = SeenIs d.marks (flat_map (below d.nodes d.vars 0) (places_of fs))

-- the same tables are marked after
abbrev pub KeepsMarks : Diagram → Diagram → Type 0
KeepsMarks old new = (fs : List Ref) → AreLive old fs → HasMarks old fs → HasMarks new fs

-- r is left by a sweep to these roots: a constant, or reached from one of them
abbrev pub IsKept : Diagram → List Ref → Ref → Type 0
IsKept d roots r = IsLive d r × ((IsProper d r → ⊥) ⊎ ((i : ℕ) × (i < length roots) × Reaches d (ref_at roots i) r))

-- exactly what the roots reach, and the constants, is live after, each with its table
pub record Sweeps (old new : Diagram) (roots : List Ref) : Type 0 where
  pub vars : new.vars ≡ old.vars
  pub live : (r : Ref) → IsKept old roots r → IsLive new r
  pub only : (r : Ref) → IsLive new r → IsKept old roots r
  pub tables : (r : Ref) → IsKept old roots r → (a : ℕ → Bool) → table new r a ≡ table old r a
  pub reached : (f r : Ref) → IsKept old roots f → IsKept old roots r → Reaches old f r → Reaches new f r
  pub firsts : (r : Ref) → IsKept old roots r → first_var new r ≡ first_var old r
