-- A diagram's nodes in one list. Places 0 and 1 are the two constants, at the level past the last variable.
use Rattle.std.specs.Prelude.{◌≡◌, ◌≢◌, ℕ, zero, suc, ◌<◌, ◌≤◌, Bool, true, false, ◌==◌, if◌then◌else◌, List, [], ◌∷◌, ◌++◌, length, slice_index_or}
use Rattle.bdd_store.specs.declared.chains.Node.{Node}

-- what stands past the end of the list
abbrev pub no_node : Node
no_node = record { var = 0; low = 0; high = 0; next = 0 }

abbrev pub node_at : List Node → ℕ → Node
node_at ns r = slice_index_or ns r no_node

abbrev pub var_at : List Node → ℕ → ℕ
var_at ns r = (node_at ns r).var

abbrev pub low_at : List Node → ℕ → ℕ
low_at ns r = (node_at ns r).low

abbrev pub high_at : List Node → ℕ → ℕ
high_at ns r = (node_at ns r).high

abbrev pub next_at : List Node → ℕ → ℕ
next_at ns r = (node_at ns r).next

-- A place that is in use: a constant or a node. A place that was given back has the level of the constants.
abbrev pub Live : ℕ → List Node → ℕ → Type 0
Live n ns r = (r < length ns) × (var_at ns r ≤ n) × (var_at ns r ≡ n → r < 2)

-- at variable k a node of that variable is left by the branch that x names; any other place stays
unfoldable pub step : List Node → ℕ → ℕ → Bool → ℕ
step ns k r x = if var_at ns r == k then (if x then high_at ns r else low_at ns r) else r

-- where the assignment leads from r, over b variables from k on
unfoldable pub walk : List Node → ℕ → ℕ → ℕ → (ℕ → Bool) → ℕ
walk ns zero k r a = r
walk ns (suc b) k r a = walk ns b (suc k) (step ns k r (a k)) a

-- the nodes below r among b variables from k on, as often as paths lead to them
unfoldable pub below : List Node → ℕ → ℕ → ℕ → List ℕ
below ns zero k r = []
below ns (suc b) k r = (if var_at ns r == k then r ∷ [] else []) ++ (below ns b (suc k) (step ns k r false) ++ below ns b (suc k) (step ns k r true))

-- the assignment with variable v at x
unfoldable pub with_at : (ℕ → Bool) → ℕ → Bool → ℕ → Bool
with_at a v x w = if w == v then x else a w

-- The nodes are those of a reduced ordered diagram over n variables.
pub record Reduced (n : ℕ) (ns : List Node) : Type 0 where
  pub constants : 2 ≤ length ns
  pub zero_last : var_at ns 0 ≡ n
  pub one_last : var_at ns 1 ≡ n
  pub low_live : (r : ℕ) → Live n ns r → var_at ns r < n → Live n ns (low_at ns r)
  pub high_live : (r : ℕ) → Live n ns r → var_at ns r < n → Live n ns (high_at ns r)
  pub low_later : (r : ℕ) → Live n ns r → var_at ns r < n → var_at ns r < var_at ns (low_at ns r)
  pub high_later : (r : ℕ) → Live n ns r → var_at ns r < n → var_at ns r < var_at ns (high_at ns r)
  pub differ : (r : ℕ) → Live n ns r → var_at ns r < n → low_at ns r ≢ high_at ns r
  pub unique : (r q : ℕ) → Live n ns r → Live n ns q → var_at ns r < n → var_at ns r ≡ var_at ns q → low_at ns r ≡ low_at ns q → high_at ns r ≡ high_at ns q → r ≡ q
