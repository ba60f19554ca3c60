-- The bits that a set speaks of, as functions.
use Rattle.std.specs.Prelude.{ℕ, ◌/◌, Bool, List}
use Rattle.bdd_store.specs.declared.Ref.{Ref}
use Rattle.bdd_store.specs.Diagram.{Diagram, table, ref_at}

-- the variables of bit b have the value of the function of b
abbrev pub seen_by : Diagram → List Ref → (ℕ → Bool) → ℕ → Bool
seen_by d bits a v = table d (ref_at bits (v / 2)) a
