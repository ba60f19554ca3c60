-- The numbers of lines and of functions.
use Rattle.std.specs.Prelude.{◌≡◌, ◌≤◌, ℕ, ◌+◌, List, Some}
use Rattle.std.specs.HashMap.{HashMap, get}
use Rattle.bdd_store.specs.declared.Ref.{Ref}
use Rattle.bdd_store.specs.Diagram.{Diagram, table, first_var}
use Rattle.bdd_ops.specs.Memo.{same_one}
use Rattle.smv_proof.specs.declared.proof.Node.{Node}
use Rattle.smv_proof.specs.Documents.{same_node}
use Rattle.smv_proof.specs.Kept.{Rooted, number_from, lines_from}

abbrev pub rooted : ℕ → List Node → Rooted
rooted root nodes = record { root = root; nodes = nodes }

-- the map has the number of each of these lines, and nothing else
abbrev pub HasNumbers : {S : Type 0} → HashMap Node ℕ S → List Node → Type 0
HasNumbers numbers nodes = (node : Node) → get same_node numbers node ≡ number_from 2 node nodes

-- the lines of f, over the variables from any one on that is not behind f's first, are put behind the old ones, and f has the number
abbrev pub IsNumbered : Diagram → Ref → List Node → ℕ → List Node → Type 0
IsNumbered d f old number new = (b v : ℕ) → b + v ≡ d.vars → v ≤ first_var d f → lines_from b v (table d f) old ≡ rooted number new

-- each function of the map has its number, and its lines stand
abbrev pub AreKnown : {S : Type 0} → Diagram → HashMap Ref ℕ S → List Node → Type 0
AreKnown d roots nodes = (f : Ref) (number : ℕ) → get same_one roots f ≡ Some number → IsNumbered d f nodes number nodes
