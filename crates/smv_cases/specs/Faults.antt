-- Where a call on a leaf is refused. Begin here: `cases_fault` is the rule of fault 29.
use Rattle.std.specs.Prelude.{◌≡◌, ℕ, length, slice_get, unwrap_or, Result, Ok, Err, Option, Some, None, ◌||◌, if◌then◌else◌, nat_lt}
use Rattle.smv_core.specs.declared.fault.Fault.{Fault}
use Rattle.smv_core.specs.declared.fault.Refusal.{Refusal}
use Rattle.smv_core.specs.declared.fault.Refusal.TheVariants as refusal
use Rattle.smv_core.specs.declared.flat.Design.{Design}
use Rattle.smv_core.specs.declared.flat.Unit.TheVariants.{Claim}
use Rattle.smv_core.specs.declared.flat.Leaf.{Leaf}
use Rattle.smv_core.specs.declared.flat.Choice.{Choice}
use Rattle.law_obligations.specs.LeafCases.{leaf_cases}
use Rattle.law_obligations.specs.Soundness.{FlatUnit, map_of, claim_of}
use Rattle.law_obligations.specs.Outlines.{unit_in}
use Rattle.law_obligations.specs.Units.{units_of}

-- the place of a unit: of a map its family's first assignment in the layer, of a claim its name
abbrev pub place_of_unit : FlatUnit → ℕ
place_of_unit (map_of def) = def.at
place_of_unit (claim_of claim) = claim.at

-- a fault at the unit of a leaf
abbrev pub fault_at_unit : ℕ → Design → Leaf → Fault
fault_at_unit number d leaf = record { number = number; at = place_of_unit (unit_in d (unwrap_or (slice_get (units_of d) leaf.unit) (Claim 0))) }

-- a leaf has at most 8 parameters and at most 4,096 cases
abbrev pub cases_fault : Design → Leaf → Choice → Option Fault
cases_fault d leaf choice =
    if nat_lt 8 (length leaf.params) || nat_lt 4096 (length (leaf_cases d.sets leaf.params choice.keeps)) then Some (fault_at_unit 29 d leaf) else None

-- an answer is Ok exactly where there is no fault, and refused exactly with the fault; or memory ran out
abbrev pub Refuses : {A : Type 0} → Option Fault → Result A Refusal → Type 0
Refuses fault (Ok x) = fault ≡ None
Refuses fault (Err (refusal.Fault f)) = fault ≡ Some f
Refuses fault (Err refusal.OutOfMemory) = Unit {0}
