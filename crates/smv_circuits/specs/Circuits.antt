-- Circuits of conjunctions: which lists of gates are one, and what a literal is worth.
use Rattle.std.specs.Prelude.{◌≡◌, ◌≢◌, ℕ, suc, ◌+◌, ◌*◌, ◌<◌, ◌≤◌, Bool, false, ◌&&◌, not, if◌then◌else◌, List, [], ◌∷◌, length}
use Rattle.std.specs.Int.{from_bool}
use Rattle.bdd_store.specs.Graph.{with_at}
use Rattle.smv_circuits.specs.declared.circuit.Literal.{Literal}
use Rattle.smv_circuits.specs.declared.circuit.Gate.{Gate}

-- the number that a file has for a literal
abbrev pub number_of : Literal → ℕ
number_of l = 2 * l.variable + from_bool l.inverted

-- the constant that variable 0 is
abbrev pub constant_of : Bool → Literal
constant_of value = record { variable = 0; inverted = value }

-- a literal under a test
abbrev pub under_test : Bool → Literal → Literal
under_test test l = if test then l else constant_of false

-- a literal, where the variables have these values
abbrev pub holds : (ℕ → Bool) → Literal → Bool
holds a l = if l.inverted then not (a l.variable) else a l.variable

abbrev pub gate_value : (ℕ → Bool) → Gate → Bool
gate_value a gate = holds a gate.left && holds a gate.right

-- the values of all variables, by those before the first gate: each gate is the conjunction of its literals
unfoldable pub values : ℕ → List Gate → (ℕ → Bool) → ℕ → Bool
values own [] a = a
values own (gate ∷ gates) a = values (suc own) gates (with_at a own (gate_value a gate))

-- the same, where variable 0 is false
abbrev pub values_of : ℕ → List Gate → (ℕ → Bool) → ℕ → Bool
values_of first gates a = values first gates (with_at a 0 false)

abbrev pub value : ℕ → List Gate → (ℕ → Bool) → Literal → Bool
value first gates a l = holds (values_of first gates a) l

-- each gate stands behind its literals, the one of the later variable first
abbrev pub AreGates : ℕ → List Gate → Type 0
AreGates own [] = Unit {0}
AreGates own (gate ∷ gates) = (gate.left.variable < own) × (gate.right.variable < gate.left.variable) × AreGates (suc own) gates

-- gates that are the variables from one on, of which a file can speak
pub record IsCircuit (first : ℕ) (all : List Gate) : Type 0 where
  pub some : 0 < first
  pub few : first + length all ≤ 1073741824
  pub gates : AreGates first all

-- the variable of a literal is an input, a latch or a gate
abbrev pub IsIn : ℕ → List Gate → Literal → Type 0
IsIn first gates l = l.variable < first + length gates

-- what was a literal is one of the same worth
pub record Keeps (first : ℕ) (old : List Gate) (next : ℕ) (new : List Gate) : Type 0 where
  pub stays : next ≡ first
  pub longer : length old ≤ length new
  pub same : (l : Literal) → IsIn first old l → (a : ℕ → Bool) → value next new a l ≡ value first old a l

-- a literal was made, after a circuit had these gates: the literals that stood keep their worth, and the new one has this
pub record Adds (first : ℕ) (old : List Gate) (next : ℕ) (new : List Gate) (made : Literal) (f : (ℕ → Bool) → Bool) : Type 0 where
  pub circuit : IsCircuit next new
  pub keeps : Keeps first old next new
  pub within : IsIn next new made
  pub value : (a : ℕ → Bool) → value next new a made ≡ f a

-- two literals of different variables, of which none is a constant
pub record AreApart (one other : Literal) : Type 0 where
  pub one_some : one.variable ≢ 0
  pub other_some : other.variable ≢ 0
  pub apart : one.variable ≢ other.variable

-- the conjunction of two literals, of the variable of one of them or of none
pub record IsSimple (one other made : Literal) : Type 0 where
  pub at : (n : ℕ) → one.variable < n → other.variable < n → made.variable < n
  pub value : (a : ℕ → Bool) → a 0 ≡ false → holds a made ≡ (holds a one && holds a other)

-- the gate of two literals
pub record IsGateOf (one other : Literal) (gate : Gate) : Type 0 where
  pub left : (n : ℕ) → one.variable < n → other.variable < n → gate.left.variable < n
  pub right : gate.right.variable < gate.left.variable
  pub value : (a : ℕ → Bool) → gate_value a gate ≡ (holds a one && holds a other)
