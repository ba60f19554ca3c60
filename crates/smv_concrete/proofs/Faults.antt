-- Faults at the unit that is decided at given sizes.
use Rattle.std.proofs.Common.{◌≡◌, ℕ, List, slice_get, Option, Some, None, Bool, if◌then◌else◌, nat_lt, refl, sym, ap, ◌∙◌}
use Rattle.std.specs.Prelude.{unwrap_or}
use Rattle.std.specs.List.{list_any}
use Rattle.law_lists.proofs.Anys.{any-map}
use Rattle.smv_core.specs.declared.fault.Fault.{Fault}
use Rattle.smv_core.specs.declared.flat.Case.{Case}
use Rattle.smv_core.specs.declared.flat.Class.{Class}
use Rattle.smv_core.specs.declared.flat.Design.{Design}
use Rattle.smv_core.specs.declared.flat.Leaf.{Leaf}
use Rattle.smv_core.specs.declared.flat.Unit.{Unit}
use Rattle.smv_core.specs.declared.flat.Unit.TheVariants.{Claim}
use Rattle.law_obligations.specs.Outlines.{unit_in}
use Rattle.law_obligations.specs.Soundness.{FlatUnit, claim_of, map_of}
use Rattle.law_obligations.specs.Units.{units_of}
use Rattle.law_problems.specs.Parts.{place_of_unit}
use Rattle.law_concrete.specs.Sizes.{at_unit, case_bits, width_fault_of}
use Rattle.smv_cases.specs.Faults as cases
use Rattle.smv_cases.specs.Slots.{classes_of}

same-place : (unit : FlatUnit) → cases.place_of_unit unit ≡ place_of_unit unit
same-place (map_of def) = refl
same-place (claim_of claim) = refl

-- the fault that the code makes is one at the unit
pub fault-is : (d : Design) (units : List Unit) (leaf : Leaf) (given : List ℕ) (number : ℕ) (f : Fault) → units ≡ units_of d → f ≡ cases.fault_at_unit number d leaf → f ≡ at_unit d (unwrap_or (slice_get units leaf.unit) (Claim 0)) given number
fault-is d units leaf given number f same e = e
    ∙ (ap (λ (us : List Unit). record { number = number; at = cases.place_of_unit (unit_in d (unwrap_or (slice_get us leaf.unit) (Claim 0))) }) (sym same)
    ∙ ap (λ (k : ℕ). record { number = number; at = k }) (same-place (unit_in d (unwrap_or (slice_get units leaf.unit) (Claim 0)))))

-- the fault of cases of which one has too many state bits, or none has
module _ (d : Design) (unit : Unit) (given : List ℕ) (cases_of : List Case) where
  abbrev pub wide : Case → Bool
  wide c = nat_lt 1024 (case_bits d unit given c.classes)

  abbrev by : Bool → Option Fault
  by b = if b then Some (at_unit d unit given 30) else None

  pub width-is : (b : Bool) → list_any wide cases_of ≡ b → width_fault_of d unit given (classes_of cases_of) ≡ by b
  width-is b e = ap by (any-map (λ (classes : List Class). nat_lt 1024 (case_bits d unit given classes)) (λ (c : Case). c.classes) cases_of ∙ e)
