-- What a call on a leaf takes of a plan, and what it refuses.
use Rattle.std.specs.Prelude.{◌≡◌, ◌≤◌, ℕ, List, [], map, length, slice_get, unwrap_or, Result, Ok, Err, Option, Some, None, ◌||◌, if◌then◌else◌, nat_lt, IsTrue, IfSome}
use Rattle.smv_core.specs.declared.fault.Fault.{Fault}
use Rattle.smv_core.specs.declared.fault.Refusal.{Refusal}
use Rattle.smv_core.specs.declared.fault.Refusal.TheVariants as refusal
use Rattle.smv_core.specs.declared.flat.SetInfo.{SetInfo}
use Rattle.smv_core.specs.declared.flat.Simple.{Simple}
use Rattle.smv_core.specs.declared.flat.Family.{Family}
use Rattle.smv_core.specs.declared.flat.Design.{Design}
use Rattle.smv_core.specs.declared.flat.Def.{Def}
use Rattle.smv_core.specs.declared.flat.Claim.{Claim as FlatClaim}
use Rattle.smv_core.specs.declared.flat.Guard.{Guard}
use Rattle.smv_core.specs.declared.flat.Unit.TheVariants.{Claim}
use Rattle.smv_core.specs.declared.flat.Leaf.{Leaf}
use Rattle.smv_core.specs.declared.flat.Choice.{Choice}
use Rattle.smv_core.specs.declared.flat.Timed.{Timed}
use Rattle.smv_core.specs.declared.flat.Class.{Class}
use Rattle.law_obligations.specs.Sets.{Has}
use Rattle.law_obligations.specs.Places.{World}
use Rattle.law_obligations.specs.Covers.{IsIndexType}
use Rattle.law_obligations.specs.LeafCases.{leaf_cases}
use Rattle.law_obligations.specs.Soundness.{FlatUnit, map_of, claim_of}
use Rattle.law_obligations.specs.Outlines.{Entry, Outline, names_of, unit_in}
use Rattle.law_obligations.specs.Units.{units_of, script_of}
use Rattle.law_obligations.specs.Cones.{AbsElement, cone}
use Rattle.law_obligations.specs.Problems.{world_of, params_at}
use Rattle.law_obligations.specs.Checked.{IsChecked}
use Rattle.law_designs.specs.FlatKinds as kinds
use Rattle.law_designs.specs.FlatKinds.{FlatKind, kind_of}
use Rattle.law_obligations.specs.Readings.{PosedCase, bits_of_all}
use Rattle.law_obligations.specs.Scripts.{case_of, HaveValues}
use Rattle.smv_problem.specs.WellFormed.{as_flat_text, keeps_orders, is_part, AreDistinct}

-- a design with its units
abbrev pub outlined : Design → Outline
outlined d = record { design = d; units = units_of d }

-- the unit of a leaf, with the leaf and its choice
abbrev pub entry_of : Design → Leaf → Choice → Entry
entry_of d leaf choice = record { unit = unwrap_or (slice_get (units_of d) leaf.unit) (Claim 0); leaf = leaf; choice = choice }

-- the case of these parts
abbrev pub case_with : Design → Leaf → Choice → Timed → List Class → PosedCase
case_with d leaf choice times classes = case_of (outlined d) (entry_of d leaf choice) times classes

-- the design as that case sees it, the elements of its cone and the bits that they have together, which no times of uses change
abbrev pub world_with : Design → Leaf → Choice → List Class → World
world_with d leaf choice classes = world_of (outlined d) (entry_of d leaf choice) classes

abbrev pub cone_with : Design → Leaf → Choice → List Class → List AbsElement
cone_with d leaf choice classes = cone (world_with d leaf choice classes) (outlined d) (entry_of d leaf choice) (params_at (outlined d) (entry_of d leaf choice) classes)

abbrev pub bits_with : Design → Leaf → Choice → List Class → ℕ
bits_with d leaf choice classes = bits_of_all (world_with d leaf choice classes) (cone_with d leaf choice classes)

-- what the rules of kinds say of a design: of its definitions, its claims, its enumerations and the indexes of its families
pub record IsFitDesign (d : Design) : Type 0 where
  pub definitions : (def : Def) → Has d.defs def →
      IsTrue (is_part (as_flat_text (names_of d)) def.family [] def.init) × IsTrue (is_part (as_flat_text (names_of d)) def.family [] def.next) × IsTrue (is_part (as_flat_text (names_of d)) def.family [] def.comb)
  pub claims : (claim : FlatClaim) → Has d.claims claim → IsTrue (kinds.takes FlatKind.number (kinds.kind_in (as_flat_text (names_of d)) (map (λ p. kind_of p.over) claim.params) claim.body)) × IsTrue (keeps_orders (as_flat_text (names_of d)) (map (λ p. kind_of p.over) claim.params) claim.body)
  pub constants : (list : List (List ℕ)) → Has d.enums list → AreDistinct list
  pub indexes : (f : Family) → Has d.families f → (t : Simple) → Has f.over t → IsIndexType t

-- a leaf and its choice among those of a script that is as the passes give it
pub record IsPart (d : Design) (leaf : Leaf) (choice : Choice) : Type 0 where
  pub leaves : List Leaf
  pub choices : List Choice
  pub each_leaf : length leaves ≡ length (units_of d)
  pub each_choice : length choices ≡ length (units_of d)
  pub is_entry : Has (script_of d leaves choices).entries (entry_of d leaf choice)
  pub is_checked : IsChecked (script_of d leaves choices)
  pub have_values : HaveValues d
  pub sizes : (info : SetInfo) → Has d.sets info → IfSome info.size (λ n. n ≤ 256)
  pub is_fit : IsFitDesign d
  pub guards : (g : Guard) → Has leaf.guards g → (kind : FlatKind) × (kinds.kind_in (as_flat_text (names_of d)) (map (λ p. kind_of p.over) leaf.params) g.expr ≡ Some kind) × IsTrue (keeps_orders (as_flat_text (names_of d)) (map (λ p. kind_of p.over) leaf.params) g.expr)

-- the classes of one of its cases, where the leaf has no more parameters than a case may have
pub record IsCaseOf (d : Design) (leaf : Leaf) (choice : Choice) (classes : List Class) : Type 0 where
  pub few : length leaf.params ≤ 8
  pub is_case : Has (leaf_cases d.sets leaf.params choice.keeps) classes

-- ---- refusals

-- the place of a unit: of a map its family's first assignment in the layer, of a claim its name
abbrev pub place_of_unit : FlatUnit → ℕ
place_of_unit (map_of def) = def.at
place_of_unit (claim_of claim) = claim.at

abbrev pub fault_at_unit : ℕ → Design → Leaf → Fault
fault_at_unit number d leaf = record { number = number; at = place_of_unit (unit_in d (unwrap_or (slice_get (units_of d) leaf.unit) (Claim 0))) }

-- too many state bits of a case
abbrev pub width_fault : Design → Leaf → Choice → List Class → Option Fault
width_fault d leaf choice classes = if nat_lt 1024 (bits_with d leaf choice classes) then Some (fault_at_unit 30 d leaf) else None

-- too many parameters or cases of a leaf
abbrev pub cases_fault : Design → Leaf → Choice → Option Fault
cases_fault d leaf choice =
    if nat_lt 8 (length leaf.params) || nat_lt 4096 (length (leaf_cases d.sets leaf.params choice.keeps)) then Some (fault_at_unit 29 d leaf) else None

-- an answer is Ok exactly where there is no fault, and refused exactly with the fault; or memory ran out
abbrev pub Refuses : {A : Type 0} → Option Fault → Result A Refusal → Type 0
Refuses fault (Ok x) = fault ≡ None
Refuses fault (Err (refusal.Fault f)) = fault ≡ Some f
Refuses fault (Err refusal.OutOfMemory) = Prim.Unit {0}
