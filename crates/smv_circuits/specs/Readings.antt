-- Where the variables of functions stand in a circuit: the inputs are the bits of the new state, from variable 1 on, the latches behind them those of the old one, and then the latch that tells whether there is an old one.
use Rattle.std.specs.Prelude.{◌≡◌, ℕ, ◌+◌, ◌*◌, ◌/◌, ◌%◌, Bool, ◌&&◌, ◌==◌, if◌then◌else◌, List, Some}
use Rattle.std.specs.HashMap.{HashMap, get}
use Rattle.bdd_store.specs.declared.Ref.{Ref}
use Rattle.bdd_store.specs.Diagram.{Diagram, table}
use Rattle.bdd_ops.specs.Memo.{same_one}
use Rattle.smv_circuits.specs.declared.circuit.Literal.{Literal}
use Rattle.smv_circuits.specs.declared.circuit.Gate.{Gate}
use Rattle.smv_circuits.specs.Circuits.{IsIn, value}

abbrev pub input_of : ℕ → ℕ
input_of bit = bit + 1

abbrev pub latch_of : ℕ → ℕ → ℕ
latch_of bits bit = bits + 1 + bit

abbrev pub started_of : ℕ → ℕ
started_of bits = 2 * bits + 1

abbrev pub first_gate : ℕ → ℕ
first_gate bits = 2 * bits + 2

-- the variable of the circuit that a variable of a step is, or one of a first state
abbrev pub place_of : ℕ → Bool → ℕ → ℕ
place_of bits step var = if step && var % 2 == 0 then latch_of bits (var / 2) else input_of (var / 2)

abbrev pub read_by : ℕ → Bool → (ℕ → Bool) → ℕ → Bool
read_by bits step a var = a (place_of bits step var)

-- each function of the map has its literal
abbrev pub AreKnown : {S : Type 0} → Diagram → ℕ → Bool → ℕ → List Gate → HashMap Ref Literal S → Type 0
AreKnown d bits step first gates known =
    (f : Ref) (l : Literal) → get same_one known f ≡ Some l → IsIn first gates l × ((a : ℕ → Bool) → value first gates a l ≡ table d f (read_by bits step a))
