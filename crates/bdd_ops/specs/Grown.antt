-- What a call adds to a store, also one that is ended.
use Rattle.std.specs.Prelude.{◌≡◌, ◌⊎◌, ℕ, suc, ◌-◌, ◌≤◌, true, Result, Ok, Err}
use Rattle.std.specs.List.{list_any}
use Rattle.bdd_store.specs.declared.Ref.{Ref}
use Rattle.bdd_store.specs.Beads.{truth_table, same_block, blocks_of}
use Rattle.bdd_store.specs.Diagram.{Diagram, IsLive, IsProper, table, first_var}
use Rattle.bdd_ops.specs.Functions.{Function}
use Rattle.bdd_ops.specs.declared.Stop.{Stop}
use Rattle.bdd_ops.specs.declared.Stop.TheVariants.{Large, OutOfMemory}

-- r is a constant, or a bead of F: its values over the variables from its first one on are a block of F's truth table
-- whose two halves differ
unfoldable pub IsBeadOf : Diagram → Function → Ref → Type 0
IsBeadOf d F r = IsProper d r → list_any (same_block (truth_table (d.vars - first_var d r) (first_var d r) (table d r))) (blocks_of d.vars (truth_table d.vars 0 F)) ≡ true

-- whatever is new is a bead of F
abbrev pub Adds : Diagram → Diagram → Function → Type 0
Adds old new F = (q : Ref) → IsLive new q → IsLive old q ⊎ IsBeadOf new F q

-- so many nodes are held after: no more than the limit, and one more where the call was ended for it
abbrev pub IsWithin : {A : Type 0} → ℕ → ℕ → Result A Stop → Type 0
IsWithin limit n (Ok x) = n ≤ limit
IsWithin limit n (Err Large) = n ≡ suc limit
IsWithin limit n (Err OutOfMemory) = n ≤ limit
