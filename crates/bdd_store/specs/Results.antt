-- The results of operations that a Store knows.
use Rattle.std.specs.Prelude.{◌≡◌, ℕ, ◌-◌, ◌<◌, Bool, true, false, ◌&&◌, ◌||◌, not, List, [], length, slice_index_or}
use Rattle.bdd_store.specs.declared.Ref.{Ref}
use Rattle.bdd_store.specs.declared.Operation.{Operation}
use Rattle.bdd_store.specs.declared.Operation.TheVariants.{And, Or, Not, Rename, Exists}
use Rattle.bdd_store.specs.declared.results.Entry.{Entry}
use Rattle.bdd_store.specs.declared.chains.Node.{Node}
use Rattle.bdd_store.specs.Graph.{with_at}
use Rattle.bdd_store.specs.Diagram.{Diagram, IsLive, table}

-- the operands of an operation are live
abbrev pub AreOperands : Diagram → Operation → Type 0
AreOperands d (And f g) = IsLive d f × IsLive d g
AreOperands d (Or f g) = IsLive d f × IsLive d g
AreOperands d (Not f) = IsLive d f
AreOperands d (Rename f) = IsLive d f
AreOperands d (Exists f v) = IsLive d f

-- the value of what an operation makes: the conjunction or disjunction, the negation, the function with each variable
-- replaced by the one before it, and the disjunction of the function with a variable at 0 and with it at 1
abbrev pub made : Diagram → Operation → (ℕ → Bool) → Bool
made d (And f g) a = table d f a && table d g a
made d (Or f g) a = table d f a || table d g a
made d (Not f) a = not (table d f a)
made d (Rename f) a = table d f (λ v. a (v - 1))
made d (Exists f v) a = table d f (with_at a v false) || table d f (with_at a v true)

-- r is the result of an operation
pub record IsResult (d : Diagram) (operation : Operation) (r : Ref) : Type 0 where
  pub operands : AreOperands d operation
  pub live : IsLive d r
  pub table : (a : ℕ → Bool) → table d r a ≡ made d operation a

abbrev pub no_entry : Entry
no_entry = record { operation = And (record { place = 0 }) (record { place = 0 }); answer = record { place = 0 }; turn = 0 }

abbrev pub entry_at : List Entry → ℕ → Entry
entry_at es i = slice_index_or es i no_entry

-- each entry is right
abbrev pub AreResults : Diagram → List Entry → Type 0
AreResults d es = (i : ℕ) → i < length es → IsResult d (entry_at es i).operation (entry_at es i).answer

-- a diagram of these nodes
abbrev pub diagram_of : ℕ → List Node → Diagram
diagram_of n ns = record { vars = n; calls = 0; spare = 0; nodes = ns; marks = [] }
