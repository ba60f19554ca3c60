-- What a reader of the contracts must believe, with the words of bdd_store: functions of assignments, and what each
-- operation makes of them.
use Rattle.std.specs.Prelude.{◌≡◌, ℕ, ◌-◌, Bool, true, false, ◌||◌, not, List, slice_index_or}
use Rattle.std.specs.Prelude.{◌⊎◌}
use Rattle.bdd_store.specs.declared.Ref.{Ref}
use Rattle.bdd_store.specs.Graph.{with_at}
use Rattle.bdd_store.specs.Beads.{truth_table, same_block}
use Rattle.bdd_store.specs.Diagram.{Diagram, IsLive, Reaches}

abbrev pub Function : Type 0
Function = (ℕ → Bool) → Bool

-- f with variable v at 0 or f with variable v at 1
abbrev pub some_at : ℕ → Function → Function
some_at v f a = f (with_at a v false) || f (with_at a v true)

-- each variable is replaced by the one before it
abbrev pub lowered : Function → Function
lowered f a = f (λ v. a (v - 1))

-- f doesn't depend on variable v
abbrev pub FreeOf : ℕ → Function → Type 0
FreeOf v f = (a : ℕ → Bool) → f (with_at a v false) ≡ f (with_at a v true)

-- f over n variables depends on variable v: its tables with v at 0 and at 1 differ
unfoldable pub depends : ℕ → Function → ℕ → Bool
depends n f v = not (same_block (truth_table n 0 (λ a. f (with_at a v false))) (truth_table n 0 (λ a. f (with_at a v true))))

-- the assignment that a list of values spells
abbrev pub bit_at : List Bool → ℕ → Bool
bit_at bits v = slice_index_or bits v false

-- whatever is new is reached from r
abbrev pub IsFreshBelow : Diagram → Diagram → Ref → Type 0
IsFreshBelow old new r = (q : Ref) → IsLive new q → IsLive old q ⊎ Reaches new r q
