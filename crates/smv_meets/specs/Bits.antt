-- Functions that are the values of bits.
use Rattle.std.specs.Prelude.{◌≡◌, ℕ, ◌*◌, ◌<◌, Bool, List, length, get_or}
use Rattle.bdd_store.specs.declared.Ref.{Ref}
use Rattle.bdd_store.specs.Diagram.{Diagram, IsLive, table, ref_at}

-- a function for each bit: its value in the current state, read at these places
pub record AreBitsAt (d : Diagram) (places : List ℕ) (bits : List Ref) : Type 0 where
  pub count : length bits ≡ length places
  pub live : (b : ℕ) → b < length places → IsLive d (ref_at bits b)
  pub tables : (b : ℕ) → b < length places → (a : ℕ → Bool) → table d (ref_at bits b) a ≡ a (2 * get_or places b 0)
