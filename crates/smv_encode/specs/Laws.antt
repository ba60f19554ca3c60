-- The law of stores that keep tables.
use Rattle.std.specs.Prelude.{◌≡◌, ℕ, Bool}
use Rattle.bdd_store.specs.declared.Ref.{Ref}
use Rattle.bdd_store.specs.Diagram.{Diagram, IsLive, IsReduced, table, Keeps}

-- each live Ref is live after, with its table, over the same variables
pub record KeepsTables (old new : Diagram) : Type 0 where
  pub vars : new.vars ≡ old.vars
  pub live : (r : Ref) → IsLive old r → IsLive new r
  pub tables : (r : Ref) → IsLive old r → (a : ℕ → Bool) → table new r a ≡ table old r a

-- such a store keeps all of the earlier one: its nodes are those of the tables
abbrev pub KeptTablesKeep : Type 0
KeptTablesKeep = (old new : Diagram) → IsReduced old → IsReduced new → KeepsTables old new → Keeps old new
