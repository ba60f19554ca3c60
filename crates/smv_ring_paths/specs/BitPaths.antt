-- Violating paths as data: for each state the values of its bits.
use Rattle.std.specs.Prelude.{◌≡◌, ℕ, suc, ◌<◌, Bool, List, [], map, length, slice_index_or}
use Rattle.std.specs.List.{All}
use Rattle.std.specs.Global.{Vec}
use Rattle.bdd_store.specs.declared.Ref.{Ref}
use Rattle.bdd_store.specs.Diagram.{Diagram, table, ref_at}
use Rattle.bdd_ops.specs.Functions.{bit_at}
use Rattle.smv_rings.specs.Lists.{Lists, State}
use Rattle.smv_rings.specs.Paths.{IsViolating}
use Rattle.smv_rings.specs.Schedule.{ring}

-- ring 0, ring 1 and so on
abbrev pub AreRings : Diagram → Lists → List Ref → Type 0
AreRings d l rings = (i : ℕ) → i < length rings → table d (ref_at rings i) ≡ ring l i

-- the state of these bits; bits that are not there are 0
abbrev pub state_of : Vec Bool → State
state_of bits = bit_at bits.items

abbrev pub states_of : List (Vec Bool) → List State
states_of states = map state_of states

-- the state at each time, and behind the last one that of no bits
abbrev pub by_time : List State → ℕ → State
by_time states i = slice_index_or states i (bit_at [])

-- a state of so many bits
abbrev pub HasBits : ℕ → Vec Bool → Type 0
HasBits bits state = length state.items ≡ bits

-- the states of a violating path of so many steps
pub record IsBitPath (l : Lists) (steps : ℕ) (states : List (Vec Bool)) : Type 0 where
  pub is_so_long : length states ≡ suc steps
  pub have_bits : All (HasBits l.bits) states
  pub violates : IsViolating l steps (by_time (states_of states))
