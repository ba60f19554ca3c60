-- What slots stand for, and what a search for cases gives.
use Rattle.std.specs.Prelude.{◌≡◌, ◌≤◌, ◌<◌, ◌+◌, ℕ, List, [], ◌∷◌, ◌++◌, map, length, slice_get, Option, Some, option_map, Bool, true, false, if◌then◌else◌, Result, Ok, Err, nat_lt}
use Rattle.smv_core.specs.declared.flat.Simple.{Simple}
use Rattle.smv_core.specs.declared.flat.Simple.TheVariants.{Set}
use Rattle.smv_core.specs.declared.flat.Class.{Class}
use Rattle.smv_core.specs.declared.flat.Class.TheVariants.{Named, Rest}
use Rattle.smv_core.specs.declared.flat.Case.{Case}
use Rattle.law_obligations.specs.Sets.{Has}
use Rattle.law_obligations.specs.Cases as spec
use Rattle.std.specs.List.{flat_map, list_all}
use Rattle.law_obligations.specs.Cases.{Parameter, is_allowed, candidates}
use Rattle.smv_cases.specs.Growing.{may_stand}
use Rattle.smv_cases.specs.declared.slots.Treatment.{Treatment}
use Rattle.smv_cases.specs.declared.slots.Treatment.TheVariants.{Whole, Reduced, Ordered}
use Rattle.smv_cases.specs.declared.slots.Slot.{Slot}
use Rattle.smv_cases.specs.declared.rules.Limits.{Limits}

abbrev pub treatment_of : Treatment → spec.Treatment
treatment_of (Whole n) = spec.whole n
treatment_of (Reduced size) = spec.reduced size
treatment_of Ordered = spec.ordered

abbrev pub parameter_of : Slot → Parameter
parameter_of slot = record { over = slot.over; listed = slot.listed }

abbrev pub parameters_of : List Slot → List Parameter
parameters_of slots = map parameter_of slots

-- a slot over a set type has the treatment of the type
abbrev pub IsSlot : List spec.Treatment → Slot → Type 0
IsSlot treatments slot = (set : ℕ) → slot.over ≡ Set set → option_map treatment_of slot.treatment ≡ slice_get treatments set

abbrev pub AreSlots : List spec.Treatment → List Slot → Type 0
AreSlots treatments slots = (slot : Slot) → Has slots slot → IsSlot treatments slot

module _ (slots : List Slot) where
  -- the rules of the set type of a parameter are kept
  abbrev pub keeps_rules : List Class → Option Treatment → Simple → Bool
  keeps_rules classes (Some t) (Set set) = is_allowed (treatment_of t) set (parameters_of slots) classes
  keeps_rules classes _ _ = true

  abbrev pub keeps : List Class → Slot → Bool
  keeps classes slot = keeps_rules classes slot.treatment slot.over

  -- a class that a parameter may have after these
  abbrev pub stands_by : List Class → Option Treatment → Simple → Bool → Class → Bool
  stands_by before (Some t) (Set set) listed x = may_stand (treatment_of t) set (parameters_of slots) before listed x
  stands_by before _ _ listed x = true

  abbrev pub stands : List Class → Slot → Class → Bool
  stands before slot x = stands_by before slot.treatment slot.over slot.listed x

  -- the cases that begin with these classes, where these parameters are left
  abbrev pub grown_of : List Class → List Slot → List (List Class)
  grown_of before [] = if list_all (keeps before) slots then before ∷ [] else []
  grown_of before (slot ∷ more) = flat_map (λ x. if stands before slot x then grown_of (before ++ x ∷ []) more else []) (candidates [] (length slots) slot.over)

  -- those where the next parameter has this class, which may stand there
  abbrev pub grown_behind : List Class → List Slot → Class → List (List Class)
  grown_behind before more x = grown_of (before ++ x ∷ []) more

  -- those where the next parameter has this class
  abbrev pub grown_by : List Class → Slot → List Slot → Class → List (List Class)
  grown_by before slot more x = if stands before slot x then grown_of (before ++ x ∷ []) more else []

-- some slots tell as much of the rules as all: one for each set type
abbrev pub AreTypes : List Slot → List Slot → Type 0
AreTypes slots types = (classes : List Class) → list_all (keeps slots classes) types ≡ list_all (keeps slots classes) slots

-- of so many named classes and one rest more those below these numbers pass a test
abbrev pub AreLimits : ℕ → (Class → Bool) → Limits → Type 0
AreLimits n test limits = ((c : ℕ) → c < n → test (Named c) ≡ nat_lt c limits.named) × ((g : ℕ) → g < n + 1 → test (Rest g) ≡ nat_lt g limits.rests)

-- the classes of cases
abbrev pub classes_of : List Case → List (List Class)
classes_of cases = map (λ c. c.classes) cases

-- these are put behind those before, or there are too many of them
abbrev pub Gathers : {E : Type 0} → Result Bool E → List (List Class) → List (List Class) → List (List Class) → Type 0
Gathers (Ok true) old new more = (new ≡ old ++ more) × (length new ≤ 4096)
Gathers (Ok false) old new more = 4096 < length old + length more
Gathers (Err e) old new more = Unit {0}
