-- What a frame of the circuit of a case does, which is a step or, where there is no old state, a first state.
use Rattle.std.specs.Prelude.{◌≡◌, ℕ, suc, Bool, ◌&&◌, if◌then◌else◌, List, [], ◌∷◌, length}
use Rattle.smv_rings.specs.Lists.{Lists, State, all_of, at, both}
use Rattle.smv_circuits.specs.declared.circuit.Literal.{Literal}
use Rattle.smv_circuits.specs.declared.circuit.Gate.{Gate}
use Rattle.smv_circuits.specs.Circuits.{IsCircuit, IsIn, Keeps, value}
use Rattle.smv_circuits.specs.Readings.{first_gate, input_of, latch_of, started_of}
use Rattle.smv_circuits.specs.Files.{file}

-- the new state meets all demands of now, and the old one those of before; so the new one takes its place
abbrev pub goes_on : Lists → Bool → State → State → Bool
goes_on l started old new =
    if started then all_of l.now_step (both old new) && all_of l.before_step (both old new)
    else all_of l.now_first (at new) && all_of l.before_first (at new)

-- the new state meets all demands of now and violates the target
abbrev pub breaks : Lists → Bool → State → State → Bool
breaks l started old new =
    if started then all_of l.now_step (both old new) && l.broken_step (both old new)
    else all_of l.now_first (at new) && l.broken_first (at new)

abbrev pub old_in : ℕ → (ℕ → Bool) → State
old_in bits a bit = a (latch_of bits bit)

abbrev pub new_in : (ℕ → Bool) → State
new_in a bit = a (input_of bit)

-- literals of latches, from that of one bit on: what they become is the bit of the new state under a test, and else 0
abbrev pub AreNext : ℕ → List Gate → ((ℕ → Bool) → Bool) → ℕ → List Literal → Type 0
AreNext first gates test bit [] = Unit {0}
AreNext first gates test bit (l ∷ ls) = (IsIn first gates l × ((a : ℕ → Bool) → value first gates a l ≡ (test a && a (input_of bit)))) × AreNext first gates test (suc bit) ls

-- a literal was made for each latch, after a circuit had these gates
pub record Becomes (first : ℕ) (old : List Gate) (end : ℕ) (new : List Gate) (test : (ℕ → Bool) → Bool) (bits : ℕ) (latches : List Literal) : Type 0 where
  pub circuit : IsCircuit end new
  pub keeps : Keeps first old end new
  pub count : length latches ≡ bits
  pub next : AreNext end new test 0 latches

-- two literals were made, after a circuit had these gates: that a new state goes on, and that it violates the target
pub record Tells (first : ℕ) (old : List Gate) (end : ℕ) (new : List Gate) (kept violated : Literal) (kept_by violated_by : (ℕ → Bool) → Bool) : Type 0 where
  pub circuit : IsCircuit end new
  pub keeps : Keeps first old end new
  pub goes_in : IsIn end new kept
  pub breaks_in : IsIn end new violated
  pub goes : (a : ℕ → Bool) → value end new a kept ≡ kept_by a
  pub breaks : (a : ℕ → Bool) → value end new a violated ≡ violated_by a

-- in a circuit, whether the new state of a frame goes on, and whether it violates the target
abbrev pub goes_in_frame : Lists → (ℕ → Bool) → Bool
goes_in_frame l a = goes_on l (a (started_of l.bits)) (old_in l.bits a) (new_in a)

abbrev pub breaks_in_frame : Lists → (ℕ → Bool) → Bool
breaks_in_frame l a = breaks l (a (started_of l.bits)) (old_in l.bits a) (new_in a)

-- a circuit whose latches become the new state where it goes on, and else 0, and whose output is that the target is violated
pub record IsFrames (l : Lists) (gates : List Gate) (latches : List Literal) (last shown : Literal) : Type 0 where
  pub circuit : IsCircuit (first_gate l.bits) gates
  pub count : length latches ≡ l.bits
  pub next : AreNext (first_gate l.bits) gates (goes_in_frame l) 0 latches
  pub started_in : IsIn (first_gate l.bits) gates last
  pub started : (a : ℕ → Bool) → value (first_gate l.bits) gates a last ≡ goes_in_frame l a
  pub broken_in : IsIn (first_gate l.bits) gates shown
  pub broken : (a : ℕ → Bool) → value (first_gate l.bits) gates a shown ≡ breaks_in_frame l a

-- the bytes are the file of such a circuit
pub record IsFileOf (l : Lists) (all : List ℕ) : Type 0 where
  pub gates : List Gate
  pub next : List Literal
  pub started : Literal
  pub broken : Literal
  pub are : IsFrames l gates next started broken
  pub bytes : all ≡ file l.bits gates next started broken
