-- The bytes of a circuit in the binary form of AIGER (A. Biere, The AIGER And-Inverter Graph Format, version 20071012).
use Rattle.std.specs.Prelude.{ℕ, zero, suc, ◌+◌, ◌-◌, ◌*◌, ◌/◌, ◌%◌, nat_lt, if◌then◌else◌, List, [], ◌∷◌, ◌++◌, length, codes}
use Rattle.std.specs.Fmt.{decimal}
use Rattle.std.specs.List.{flat_map}
use Rattle.smv_core.specs.Values.{numbers_from}
use Rattle.smv_circuits.specs.declared.circuit.Literal.{Literal}
use Rattle.smv_circuits.specs.declared.circuit.Gate.{Gate}
use Rattle.smv_circuits.specs.Circuits.{number_of}
use Rattle.smv_circuits.specs.Readings.{first_gate}

-- a line of a literal
abbrev pub literal_line : Literal → List ℕ
literal_line l = decimal (number_of l) ++ 10 ∷ []

-- a number in groups of seven bits, the lowest first, each but the last with 128 added: these groups and one more
abbrev pub groups : ℕ → ℕ → List ℕ
groups zero n = n % 128 ∷ []
groups (suc more) n = if nat_lt n 128 then n % 128 ∷ [] else (n % 128 + 128) ∷ groups more (n / 128)

-- a gate of this variable: how far its left literal stands before it, and the right one before that
abbrev pub gate_bytes : ℕ → Gate → List ℕ
gate_bytes own gate = groups 4 (2 * own - number_of gate.left) ++ groups 4 (number_of gate.left - number_of gate.right)

-- gates that are the variables from one on
abbrev pub gates_bytes : ℕ → List Gate → List ℕ
gates_bytes own [] = []
gates_bytes own (gate ∷ gates) = gate_bytes own gate ++ gates_bytes (suc own) gates

-- the greatest variable, the inputs, the latches, one output, the gates
abbrev pub header : ℕ → ℕ → List ℕ
header bits gates =
    codes "aig " ++ (decimal (2 * bits + 1 + gates) ++ 32 ∷ (decimal bits ++ 32 ∷ (decimal (bits + 1) ++ (codes " 1 " ++ (decimal gates ++ 10 ∷ [])))))

-- the names of the inputs and of the latches: `i0 n0` on and `l0 s0` on
abbrev pub input_name : ℕ → List ℕ
input_name bit = 105 ∷ (decimal bit ++ (codes " n" ++ (decimal bit ++ 10 ∷ [])))

abbrev pub latch_name : ℕ → List ℕ
latch_name bit = 108 ∷ (decimal bit ++ (codes " s" ++ (decimal bit ++ 10 ∷ [])))

abbrev pub names : ℕ → List ℕ
names bits =
    flat_map input_name (numbers_from 0 bits) ++ (flat_map latch_name (numbers_from 0 bits)
    ++ (108 ∷ (decimal bits ++ (codes " started" ++ (10 ∷ (codes "o0 broken" ++ 10 ∷ []))))))

-- a line for what each latch becomes, `started` last, and one for the output; the gates; the names
abbrev pub file : ℕ → List Gate → List Literal → Literal → Literal → List ℕ
file bits gates next started broken =
    header bits (length gates) ++ (flat_map literal_line next ++ (literal_line started ++ (literal_line broken
    ++ (gates_bytes (first_gate bits) gates ++ names bits))))
