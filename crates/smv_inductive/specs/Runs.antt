-- What acts on a function find and leave.
use Rattle.std.specs.Prelude.{◌≡◌, ℕ, Bool, true, false, ◌&&◌, List, [], ◌∷◌, Option, Some, None}
use Rattle.bdd_store.specs.declared.Ref.{Ref}
use Rattle.bdd_store.specs.Diagram.{Diagram, IsLive, table}
use Rattle.bdd_ops.specs.Functions.{Function}
use Rattle.smv_rings.specs.Schedule.{Act, left_by, after}
use Rattle.smv_rings.specs.Schedule.Act.{Join, Out, Look_at, Lower}

-- a look finds nothing
abbrev pub FindsNothing : Act → Function → Type 0
FindsNothing (Join f) p = Unit {0}
FindsNothing (Out v) p = Unit {0}
FindsNothing (Look_at k f) p = (a : ℕ → Bool) → p a && f a ≡ false
FindsNothing Lower p = Unit {0}

-- no look finds anything
abbrev pub AllFindNothing : Function → List Act → Type 0
AllFindNothing p [] = Unit {0}
AllFindNothing p (act ∷ acts) = FindsNothing act p × AllFindNothing (left_by act p) acts

-- what acts leave, or none where a look finds something
abbrev pub Leaves : Diagram → Function → List Act → Option Ref → Type 0
Leaves d p acts (Some r) = AllFindNothing p acts × IsLive d r × (table d r ≡ after p acts)
Leaves d p acts None = AllFindNothing p acts → ⊥

-- no look finds anything, and what acts leave is within the set
pub record StaysWithin (p : Function) (acts : List Act) (set : Function) : Type 0 where
  pub passes : AllFindNothing p acts
  pub within : (a : ℕ → Bool) → after p acts a ≡ true → set a ≡ true
