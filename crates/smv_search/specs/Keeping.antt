-- Refs that stay live.
use Rattle.std.specs.Prelude.{◌≡◌, ℕ, ◌+◌, ◌<◌, ◌≤◌, List, [], ◌∷◌, map, Result, Ok, Err}
use Rattle.bdd_store.specs.declared.Ref.{Ref}
use Rattle.bdd_store.specs.Beads.{truth_table, bead_count}
use Rattle.bdd_store.specs.Diagram.{Diagram, IsLive, IsKept, Reaches, table, first_var}
use Rattle.bdd_ops.specs.Functions.{Function}
use Rattle.smv_rings.specs.Ops.{IsOneOf}
use Rattle.law_events.specs.Events.{told, margin}
use Rattle.smv_search.specs.declared.counts.Stop.{Stop}
use Rattle.smv_search.specs.declared.counts.Stop.TheVariants.{TooMany, OutOfMemory}

abbrev pub AllHeld : Diagram → List Ref → Type 0
AllHeld d refs = (r : Ref) → IsOneOf r refs → IsLive d r

-- the constants and what these Refs reach are live after, with their tables
pub record KeepsReached (old new : Diagram) (refs : List Ref) : Type 0 where
  pub live : (r : Ref) → IsKept old refs r → IsLive new r
  pub tables : (r : Ref) → IsKept old refs r → table new r ≡ table old r
  pub reached : (f r : Ref) → IsOneOf f refs → IsKept old refs r → Reaches old f r → Reaches new f r
  pub firsts : (r : Ref) → IsKept old refs r → first_var new r ≡ first_var old r

-- these Refs and what they reach are live after, with their tables; of others nothing is said
pub record KeepsRefs (old new : Diagram) (refs : List Ref) : Type 0 where
  pub vars : new.vars ≡ old.vars
  pub live : (r : Ref) → IsOneOf r refs → IsLive new r
  pub tables : (r : Ref) → IsOneOf r refs → table new r ≡ table old r
  pub below : KeepsReached old new refs

-- the beads of these functions
unfoldable pub beads_of : Diagram → List Ref → ℕ
beads_of d refs = bead_count d.vars (map (truth_table d.vars 0) (map (table d) refs))

-- the number is within the budget, or passes it and is told
abbrev pub IsTally : {A : Type 0} → ℕ → ℕ → Result A Stop → Type 0
IsTally n nodes (Ok x) = n ≤ nodes
IsTally n nodes (Err (TooMany c)) = (nodes < n) × (c ≡ told nodes n)
IsTally n nodes (Err OutOfMemory) = Unit {0}

-- the beads of one function over n variables
abbrev pub beads_in : ℕ → Function → ℕ
beads_in n f = bead_count n (truth_table n 0 f ∷ [])

-- a function that was not made for its number of beads has more than are told
abbrev pub IsPast : {A : Type 0} → ℕ → ℕ → Result A Stop → Type 0
IsPast n nodes (Ok x) = Unit {0}
IsPast n nodes (Err (TooMany c)) = (nodes + margin < n) × (c ≡ nodes + margin)
IsPast n nodes (Err OutOfMemory) = Unit {0}
