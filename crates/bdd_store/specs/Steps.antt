-- What a call of `node` does, in parts that its steps share.
use Rattle.std.specs.Prelude.{◌≡◌, ℕ, ◌≤◌, ◌⊎◌, Bool, if◌then◌else◌}
use Rattle.bdd_store.specs.declared.Ref.{Ref}
use Rattle.bdd_store.specs.Diagram.{Diagram, IsLive, table, IsReduced, first_var, Reaches, held, Keeps, KeepsMarks}

-- every live Ref stays
pub record Grows (old new : Diagram) : Type 0 where
  pub sound : IsReduced new
  pub keeps : Keeps old new
  pub marks : KeepsMarks old new

-- every live Ref stays, and no other comes
pub record Stays (old new : Diagram) : Type 0 where
  pub grows : Grows old new
  pub only : (q : Ref) → IsLive new q → IsLive old q
  pub held : held new ≡ held old

-- r is the function that is lo where var is 0 and hi where it is 1, and the one Ref that may be new
pub record Gives (old new : Diagram) (var : ℕ) (lo hi r : Ref) : Type 0 where
  pub live : IsLive new r
  pub first : var ≤ first_var new r
  pub tables : (a : ℕ → Bool) → table new r a ≡ (if a var then table old hi a else table old lo a)
  pub reached : (q : Ref) → IsLive old q → Reaches old lo q ⊎ Reaches old hi q → Reaches new r q
  pub fresh : (q : Ref) → IsLive new q → IsLive old q ⊎ (q ≡ r)

-- q is that function already
abbrev pub IsFound : Diagram → ℕ → Ref → Ref → Ref → Type 0
IsFound d var lo hi q = (a : ℕ → Bool) → table d q a ≡ (if a var then table d hi a else table d lo a)
