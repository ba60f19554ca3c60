-- Arrangements of a case: which of its elements have no bits, and in which order the bits of the others stand.
use Rattle.std.specs.Prelude.{◌≡◌, ℕ, ◌+◌, ◌<◌, List, [], ◌∷◌, ◌++◌, filter, get_or, Option, Some, None, Bool, false, if◌then◌else◌, nat_eq}
use Rattle.std.specs.List.{list_any, list_all}
use Rattle.smv_core.specs.Values.{numbers_from}
use Rattle.law_obligations.specs.Sets.{Has}
use Rattle.law_obligations.specs.Places.{Place}
use Rattle.law_obligations.specs.May.{AbsState}
use Rattle.law_obligations.specs.Pictures.{IsAbsState}
use Rattle.law_obligations.specs.Obligations.{Demanded, is_met, obligation}
use Rattle.law_obligations.specs.Outlines.{place_of}
use Rattle.law_obligations.specs.Cones.{AbsElement, element, same_element}
use Rattle.law_obligations.specs.Bits.{Bits}
use Rattle.law_obligations.specs.Readings.{PosedCase, Slot, values_of, bits_of, slots, state_bits, reading}
use Rattle.law_reports.specs.CaseLists.{defines, those_of}

-- Determined elements are worked out from the others at each time, each from those before it (functional dependencies: Hu and Dill, DAC 1993); nothing depends on idle ones;
-- of the bits of the others the k-th in order has the place k, where a bit that stands twice has the first of its places.
pub record Arrangement : Type 0 where
  pub determined : List AbsElement
  pub idle : List AbsElement
  pub order : List ℕ

-- a state with another value at an element
abbrev pub put : AbsElement → Place → AbsState → AbsState
put x v a family indexes = if same_element (element family indexes) x then v else a family indexes

-- two states are the same but at these elements
abbrev pub AgreeBeside : List AbsElement → AbsState → AbsState → Type 0
AgreeBeside xs a b = (family : ℕ) (indexes : List Place) → list_any (same_element (element family indexes)) xs ≡ false → a family indexes ≡ b family indexes

-- so are the states before, or there are none
abbrev pub AgreeBefore : List AbsElement → Option AbsState → Option AbsState → Type 0
AgreeBefore xs None None = Unit {0}
AgreeBefore xs (Some a) (Some b) = AgreeBeside xs a b
AgreeBefore xs _ _ = ⊥

-- something is said of each member of a list and those behind it
abbrev pub EachWith : {X : Type 0} → (List X → X → Type 0) → List X → Type 0
EachWith says [] = Unit {0}
EachWith says (x ∷ xs) = says xs x × EachWith says xs

-- and with those before it, the last of them first
abbrev pub EachBetween : {X : Type 0} → (List X → List X → X → Type 0) → List X → List X → Type 0
EachBetween says before [] = Unit {0}
EachBetween says before (x ∷ xs) = says before xs x × EachBetween says (x ∷ before) xs

-- the bit of a case in an assignment of places; a bit without a place is 0
abbrev pub at_place : Bits → Option ℕ → Bool
at_place s (Some k) = s k
at_place s None = false

abbrev pub spread : List ℕ → Bits → Bits
spread order s b = at_place s (place_of (nat_eq b) order)

module _ (c : PosedCase) where
  abbrev pub IsState : AbsState → Type 0
  IsState a = IsAbsState c.problem.world c.problem.kept a

  abbrev pub IsBefore : Option AbsState → Type 0
  IsBefore None = Unit {0}
  IsBefore (Some a) = IsState a

  -- the values of an element with which those of these demands are met that define it, where everything else is as it is
  abbrev pub allowed : List Demanded → Option AbsState → AbsState → AbsElement → List Place
  allowed demands old now x = filter (λ v. list_all (is_met c.problem old (put x v now)) (those_of demands x)) (values_of c.problem.world x)

  -- these elements worked out one after the other, each with the first value that is allowed
  abbrev pub worked_out : List Demanded → List AbsElement → Option AbsState → AbsState → AbsState
  worked_out demands [] old now = now
  worked_out demands (x ∷ xs) old now = worked_out demands xs old (put x (get_or (allowed demands old now x) 0 (now x.family x.indexes)) now)

  -- each of these elements has a value that its demands of now allow
  abbrev pub AreWorkedOut : List AbsElement → AbsState → Type 0
  AreWorkedOut xs a = (x : AbsElement) → Has xs x → Has (allowed c.problem.now None a x) (a x.family x.indexes)

  -- An element is determined where its demands of now allow exactly one value in each state in which the elements before it are worked out, and neither its own value, nor those
  -- of the elements behind it, nor the state before can change it.
  abbrev pub IsDetermined : List AbsElement → List AbsElement → AbsElement → Type 0
  IsDetermined before behind x = (old other : Option AbsState) (a b : AbsState) → IsState a → IsState b → AreWorkedOut before a → AgreeBeside (x ∷ behind) a b →
      (v : Place) × (allowed c.problem.now old a x ≡ v ∷ []) × (allowed c.problem.now other b x ≡ v ∷ [])

  -- an element may always go on where all its demands together allow some value, the same ones whatever its own and those of these elements are
  pub record CanGoOn (behind : List AbsElement) (x : AbsElement) : Type 0 where
    pub some : (old : Option AbsState) (a : AbsState) → IsBefore old → IsState a → (v : Place) × Has (allowed (c.problem.now ++ c.problem.before) old a x) v
    pub same : (old : Option AbsState) (a b : AbsState) → IsBefore old → IsState a → IsState b → AgreeBeside (x ∷ behind) a b →
        allowed (c.problem.now ++ c.problem.before) old a x ≡ allowed (c.problem.now ++ c.problem.before) old b x

  -- nothing depends on these elements but demands that define them
  pub record AreUnread (xs : List AbsElement) : Type 0 where
    pub demands : (d : Demanded) → Has (c.problem.now ++ c.problem.before) d → list_any (λ x. defines x d) xs ≡ false →
        (old other : Option AbsState) (a b : AbsState) → AgreeBefore xs old other → AgreeBeside xs a b → is_met c.problem old a d ≡ is_met c.problem other b d
    pub broken : (old other : Option AbsState) (a b : AbsState) → AgreeBefore xs old other → AgreeBeside xs a b → (obligation c.problem).broken old a ≡ (obligation c.problem).broken other b

  -- Elements without bits are elements of the case, each once; each bit of the others has a place; and they are determined, and idle, as it is said.
  pub record IsArrangement (o : Arrangement) : Type 0 where
    pub are_elements : (x : AbsElement) → Has (o.determined ++ o.idle) x → Has c.elements x
    pub are_apart : EachWith (λ behind x. list_any (same_element x) behind ≡ false) (o.determined ++ o.idle)
    pub have_places : (slot : Slot) → Has (slots c) slot → list_any (same_element slot.element) (o.determined ++ o.idle) ≡ false →
        (i : ℕ) → i < bits_of c.problem.world slot.element → Has o.order (slot.bit + i)
    pub are_determined : EachBetween (λ before behind x. IsDetermined before (behind ++ o.idle) x) [] o.determined
    pub go_on : EachWith CanGoOn o.idle
    pub are_unread : AreUnread o.idle

  -- the state that an assignment of places is read as: bits by their places, and then the determined elements
  abbrev pub view : Arrangement → Bits → AbsState
  view o s = worked_out c.problem.now o.determined None (reading c (spread o.order s))

  -- the declared arrangement: each element has bits, each in its own place
  abbrev pub declared : Arrangement
  declared = record { determined = []; idle = []; order = numbers_from 0 (state_bits c) }

  -- a state with its idle elements worked out, by all that is demanded of them
  abbrev pub settled : Arrangement → Option AbsState → AbsState → AbsState
  settled o old a = worked_out (c.problem.now ++ c.problem.before) o.idle old a
