-- What searches find, that the times of uses are made of.
use Rattle.std.specs.Prelude.{ℕ, ◌+◌, List, length, Bool, if◌then◌else◌, nat_lt}
use Rattle.smv_core.specs.declared.flat.Design.{Design}
use Rattle.law_obligations.specs.Sets.{Has}
use Rattle.law_obligations.specs.Soundness.{FlatUnit, map_of, claim_of}
use Rattle.graph_search.specs.Walks.{Walk}
use Rattle.graph_search.specs.Searches.{IsSeen}

-- how many numbers a search for the same-time set of a unit goes through: those of the families, and of the unit's own family where it is none of them
abbrev pub nodes_of : Design → FlatUnit → ℕ
nodes_of d (claim_of claim) = length d.families
nodes_of d (map_of def) = if nat_lt def.family (length d.families) then length d.families else def.family + 1

-- what is marked is what walks lead to from these
pub record IsFound (next : ℕ → List ℕ) (from : List ℕ) (marks : List Bool) : Type 0 where
  pub begins : (x : ℕ) → Has from x → IsSeen marks x
  pub goes_on : (x y : ℕ) → IsSeen marks x → Has (next x) y → IsSeen marks y
  pub led : (x : ℕ) → IsSeen marks x → (q : ℕ) × Has from q × Walk next q x
