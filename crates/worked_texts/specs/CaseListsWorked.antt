-- Worked cases.
use Rattle.std.specs.Prelude.{◌≡◌, ℕ, List, [], ◌∷◌, map, None, Bool, true, false, codes}
use Rattle.bdd_ops.specs.Functions.{Function, bit_at}
use Rattle.smv_core.specs.declared.flat.Simple.TheVariants.{Range}
use Rattle.smv_core.specs.declared.flat.Family.{Family}
use Rattle.smv_core.specs.declared.flat.DefBody.{DefBody, Nothing, Assign}
use Rattle.smv_core.specs.declared.flat.FlatExpr.{FlatExpr, Number, Not, Or}
use Rattle.law_obligations.specs.Places.{Place}
use Rattle.law_obligations.specs.Obligations.{Demanded, defined, holds}
use Rattle.worked_obligations.specs.Worked.{family, signal}
use Rattle.worked_obligations.specs.WorkedObligations.{scalars, bit}
use Rattle.law_obligations.specs.Cones.{AbsElement, element, kept}
use Rattle.smv_rings.specs.Lists.{State, both, at}
use Rattle.law_obligations.specs.Codes.{bits_for}
use Rattle.law_obligations.specs.Readings.{PosedCase, Slot, slots, state_bits, are_values, reading}
use Rattle.law_reports.specs.CaseLists.{case_lists}

-- the value of each function at an assignment
abbrev pub at_each : List Function → (ℕ → Bool) → List Bool
at_each fs a = map (λ f. f a) fs

-- elements without indexes
abbrev pub plain : List ℕ → List AbsElement
plain ks = map (λ k. element k []) ks

-- a case of these families, all of which are kept
abbrev pub case_of : List Family → List ℕ → List Demanded → List Demanded → Demanded → PosedCase
case_of families ks now before target = record {
  problem = record { world = scalars families 0; kept = kept (plain ks); now = now; before = before; target = target; guards = []; params = [] };
  elements = plain ks;
}

abbrev pub set_to : FlatExpr → DefBody
set_to e = Assign [] e 0 0

abbrev pub by_init_next : ℕ → FlatExpr → FlatExpr → Demanded
by_init_next k first next = defined (record { family = k; layer = None; init = set_to first; next = set_to next; comb = Nothing; place = 0; at = 0 }) []

abbrev pub by_comb : ℕ → FlatExpr → Demanded
by_comb k e = defined (record { family = k; layer = None; init = Nothing; next = Nothing; comb = set_to e; place = 0; at = 0 }) []

-- x : boolean; init(x) := 0; next(x) := ~x; claim x | ~x
abbrev pub toggling : PosedCase
toggling = case_of (family (codes "x") [] (Range 0 1) ∷ []) (0 ∷ []) (by_init_next 0 (Number 0 0) (Not (signal 0) 0) ∷ []) [] (holds (Or (signal 0 ∷ Not (signal 0) 0 ∷ [])) [])

-- an element has at least one bit, and the least number that its values need
abbrev pub OneBit : Type 0
OneBit = (map bits_for (0 ∷ 1 ∷ 2 ∷ 3 ∷ 4 ∷ 5 ∷ 8 ∷ 9 ∷ 256 ∷ []) ≡ 1 ∷ 1 ∷ 1 ∷ 2 ∷ 2 ∷ 3 ∷ 3 ∷ 4 ∷ 8 ∷ []) × (state_bits toggling ≡ 1)

-- x : 2..7; y : 0..2, free: three bits and two, the highest first; code 4 of x is 6
abbrev pub two_ranges : PosedCase
two_ranges = case_of (family (codes "x") [] (Range 2 7) ∷ family (codes "y") [] (Range 0 2) ∷ []) (0 ∷ 1 ∷ []) [] [] (holds (Number 1 0) [])

abbrev pub of_bits : List Bool → State
of_bits bs = bit_at bs

abbrev pub read_both : List Bool → List Place
read_both bs = reading two_ranges (of_bits bs) 0 [] ∷ reading two_ranges (of_bits bs) 1 [] ∷ []

abbrev pub HighestFirst : Type 0
HighestFirst = (state_bits two_ranges ≡ 5) × (map (λ (slot : Slot). slot.bit) (slots two_ranges) ≡ 0 ∷ 3 ∷ [])
    × (read_both (true ∷ false ∷ false ∷ false ∷ true ∷ []) ≡ bit 6 ∷ bit 1 ∷ []) × (are_values two_ranges (of_bits (true ∷ false ∷ false ∷ false ∷ true ∷ [])) ≡ true)

-- codes above the last are read as the last value, and are none of a value
abbrev pub AboveTheLast : Type 0
AboveTheLast = (read_both (true ∷ true ∷ true ∷ true ∷ true ∷ []) ≡ bit 7 ∷ bit 2 ∷ [])
    × (are_values two_ranges (of_bits (true ∷ true ∷ false ∷ false ∷ false ∷ [])) ≡ false) × (are_values two_ranges (of_bits (false ∷ false ∷ false ∷ true ∷ true ∷ [])) ≡ false)

-- the functions of the signal that changes at each step, at each value of its bit and at each step
abbrev pub one_bit : Bool → State
one_bit x b = x

abbrev pub ToggleFunctions : Type 0
ToggleFunctions = let l = case_lists toggling in
    (at_each l.now_first (at (one_bit false)) ≡ true ∷ []) × (at_each l.now_first (at (one_bit true)) ≡ false ∷ [])
    × (at_each l.now_step (both (one_bit false) (one_bit true)) ≡ true ∷ []) × (at_each l.now_step (both (one_bit false) (one_bit false)) ≡ false ∷ [])
    × (at_each l.now_step (both (one_bit true) (one_bit false)) ≡ true ∷ []) × (at_each l.now_step (both (one_bit true) (one_bit true)) ≡ false ∷ [])
    × (at_each (l.broken_first ∷ l.broken_step ∷ []) (at (one_bit true)) ≡ false ∷ false ∷ []) × (l.bits ≡ 1)

-- a := 1; b : init 0, next 0; assumed claim b: at time 0 the functions stand in the order of the elements, and at a step that of b comes before that of a
abbrev pub two_now : PosedCase
two_now = case_of (family (codes "a") [] (Range 0 1) ∷ family (codes "b") [] (Range 0 1) ∷ []) (0 ∷ 1 ∷ []) (by_comb 0 (Number 1 0) ∷ by_init_next 1 (Number 0 0) (Number 0 0) ∷ holds (signal 1) [] ∷ []) [] (holds (Number 1 0) [])

abbrev pub MovesFirst : Type 0
MovesFirst = let l = case_lists two_now in
    (at_each l.now_first (at (of_bits (true ∷ true ∷ []))) ≡ true ∷ false ∷ true ∷ []) × (at_each l.now_step (at (of_bits (true ∷ true ∷ []))) ≡ false ∷ true ∷ true ∷ [])

-- a and b are used before, a by its `:=`, b by `next` and by itself: side by side at time 0, and those of b first at a step
abbrev pub two_before : PosedCase
two_before = case_of (family (codes "a") [] (Range 0 1) ∷ family (codes "b") [] (Range 0 1) ∷ []) (0 ∷ 1 ∷ []) []
    (by_comb 0 (Number 1 0) ∷ by_init_next 1 (Number 0 0) (Number 0 0) ∷ by_comb 1 (Number 1 0) ∷ []) (holds (Number 1 0) [])

abbrev pub BothUses : Type 0
BothUses = let l = case_lists two_before in
    (at_each l.before_first (at (of_bits (true ∷ true ∷ []))) ≡ true ∷ false ∷ true ∷ []) × (at_each l.before_step (at (of_bits (true ∷ true ∷ []))) ≡ false ∷ true ∷ true ∷ [])
    × (at_each l.now_first (at (of_bits (true ∷ true ∷ []))) ≡ true ∷ true ∷ [])
