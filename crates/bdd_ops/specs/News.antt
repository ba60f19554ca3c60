-- The results that come to be known in a call, each once.
use Rattle.std.specs.Prelude.{◌≡◌, ◌⊎◌, ℕ, ◌+◌, ◌≤◌, Bool, if◌then◌else◌, List, None, length}
use Rattle.std.specs.List.{IsDistinct, AllByRecursion}
use Rattle.bdd_store.specs.declared.Ref.{Ref}
use Rattle.bdd_store.specs.declared.Operation.{Operation}
use Rattle.bdd_store.specs.declared.Operation.TheVariants.{And, Or, Not, Rename}
use Rattle.bdd_store.specs.declared.results.Entry.{Entry}
use Rattle.bdd_store.specs.Diagram.{Diagram, IsLive, IsProper, Reaches}
use Rattle.bdd_store.specs.Sure.{IsSure}
use Rattle.memo_table.specs.Results.{Results, same_pair, result_of}
use Rattle.bdd_ops.specs.Memo.{pair_first}

-- the operation of a join, and that of a change
abbrev pub join_of : Bool → Ref × Ref → Operation
join_of unit p = if unit then And p.0 p.1 else Or p.0 p.1

abbrev pub change_of : Bool → Ref × Ref → Operation
change_of flip p = if flip then Not p.0 else Rename p.0

-- where a call stands: the store, the results that are known, and those that its memo has
abbrev pub State : Type 0
State = Diagram × (List Entry × Results)

-- the result for a pair is found again in this turn
abbrev pub IsFound : (Ref × Ref → Operation) → ℕ → State → Ref × Ref → Type 0
IsFound op turn s p = IsSure s.1.0 turn (op p) ⊎ (result_of s.1.1 p ≡ None → ⊥)

-- the result for a pair is found at t and was not at s; its operands are below f and g, and from variable k on
pub record IsNew (op : Ref × Ref → Operation) (IsPair : Ref × Ref → Type 0) (turn : ℕ) (s t : State) (f g : Ref) (k : ℕ) (p : Ref × Ref) : Type 0 where
  pub absent : IsFound op turn s p → ⊥
  pub found : IsFound op turn t p
  pub pair : IsPair p
  pub first_live : IsLive t.0 p.0
  pub second_live : IsLive t.0 p.1
  pub first_proper : IsProper t.0 p.0
  pub second_proper : IsProper t.0 p.1
  pub later : k ≤ pair_first t.0 p
  pub reached : (u v : Ref) → IsLive s.0 u → IsLive s.0 v → Reaches s.0 u f → Reaches s.0 v g → Reaches t.0 u p.0 × Reaches t.0 v p.1

-- the pairs whose results are new, each once: from s to t there are at most so many calls, and n more
pub record News (op : Ref × Ref → Operation) (IsPair : Ref × Ref → Type 0) (turn : ℕ) (s t : State) (f g : Ref) (k n : ℕ) : Type 0 where
  pub pairs : List (Ref × Ref)
  pub each : AllByRecursion (IsNew op IsPair turn s t f g k) pairs
  pub once : IsDistinct same_pair pairs
  pub stays : (p : Ref × Ref) → IsFound op turn s p → IsFound op turn t p
  pub calls : t.0.calls ≤ s.0.calls + length pairs + n

-- any pair, and those of one Ref twice
abbrev pub AnyPair : Ref × Ref → Type 0
AnyPair p = p ≡ p

abbrev pub SamePair : Ref × Ref → Type 0
SamePair p = p.0 ≡ p.1
