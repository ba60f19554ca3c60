-- How a worked text is stated: its bytes, and the times of the uses of its leaves, their cases, the types in each case, what is demanded in each, or the leaves
-- with too many; and short words for these.
use Rattle.std.specs.Prelude.{◌≡◌, ℕ, List, [], ◌∷◌, map, flat_map, zip, Option, Some, option_map, codes}
use Rattle.smv_core.specs.Values.{scalar}
use Rattle.smv_core.specs.declared.flat.Design.{Design}
use Rattle.smv_core.specs.declared.flat.SetInfo.{SetInfo}
use Rattle.smv_core.specs.declared.flat.Timing.{Timing}
use Rattle.smv_core.specs.declared.flat.Timed.{Timed}
use Rattle.smv_core.specs.declared.flat.Class.{Class}
use Rattle.smv_core.specs.declared.flat.Class.TheVariants.{Number, Named}
use Rattle.worked_texts.specs.Worked.{Answer, answer_of}
use Rattle.worked_texts.specs.FlatteningWorked.{flattened}
use Rattle.law_designs.specs.Definitions.{design_of_flat_text}
use Rattle.smv_core.specs.declared.abstract_type.AbsType.{AbsType}
use Rattle.smv_core.specs.declared.abstract_type.Rest.TheVariants as beside
use Rattle.law_obligations.specs.Cases.{type_in, numbered}
use Rattle.law_obligations.specs.Obligations.{Demanded, defined, holds}
use Rattle.law_obligations.specs.Places.{Place, named as at}
use Rattle.law_obligations.specs.LeafCases.{treatments_of, parameters_of, leaf_cases}
use Rattle.law_obligations.specs.Outlines.{Entry, Script, outline_of}
use Rattle.law_obligations.specs.Units.{script_of}
use Rattle.law_obligations.specs.Times.{all_timed}
use Rattle.law_obligations.specs.Problems.{problem_of}
use Rattle.law_splits.specs.Leaves.{leaves_of}
use Rattle.law_uses.specs.Choices.{choices_of}
use Rattle.smv_cases.specs.Faults.{cases_fault}

-- ---- texts

-- the script of a design, with the leaves and the choices that its text says
abbrev script_in : Design → Script
script_in d = script_of d (leaves_of d) (choices_of d)

-- the times of the uses of these bytes, where their names and size have no fault
abbrev pub timed_in : List ℕ → Option (List Timed)
timed_in text = option_map (λ flat_text. all_timed (script_in (design_of_flat_text flat_text))) (flattened text)

-- each text has the times that were worked out for it, one list of picks and one of claims for each leaf
abbrev pub AreTimed : List (List ℕ × List Timed) → Type 0
AreTimed rows = map (λ (text, times). timed_in text) rows ≡ map (λ (text, times). Some times) rows

-- the cases of each leaf
abbrev cases_of : Script → List (List (List Class))
cases_of s = map (λ entry. leaf_cases s.design.sets entry.leaf.params entry.choice.keeps) s.entries

abbrev pub cases_in : List ℕ → Option (List (List (List Class)))
cases_in text = option_map (λ flat_text. cases_of (script_in (design_of_flat_text flat_text))) (flattened text)

-- each text has the cases that were worked out for it
abbrev pub HaveCases : List (List ℕ × List (List (List Class))) → Type 0
HaveCases rows = map (λ (text, cases). cases_in text) rows ≡ map (λ (text, cases). Some cases) rows

-- the abstract form of each set type in each case of a leaf
abbrev types_for : List SetInfo → Entry → List (List AbsType)
types_for sets entry =
    let params = parameters_of entry.choice.keeps entry.leaf.params in
    map (λ classes. map (λ (set, t). type_in t set params classes) (numbered 0 (treatments_of entry.choice.keeps 0 sets))) (leaf_cases sets entry.leaf.params entry.choice.keeps)

abbrev pub types_in : List ℕ → Option (List (List (List AbsType)))
types_in text = option_map (λ flat_text. let s = script_in (design_of_flat_text flat_text) in map (types_for s.design.sets) s.entries) (flattened text)

-- each text has the types that were worked out for it
abbrev pub HaveTypes : List (List ℕ × List (List (List AbsType))) → Type 0
HaveTypes rows = map (λ (text, types). types_in text) rows ≡ map (λ (text, types). Some types) rows

-- a definition that is demanded of an element: its family, its layer and the element's indexes
abbrev pub Told : Type 0
Told = ℕ × Option ℕ × List Place

abbrev told : Demanded → List Told
told (defined def indexes) = (def.family, def.layer, indexes) ∷ []
told (holds body places) = []

-- the definitions that are demanded now and before in each case of a leaf
abbrev demands_for : Script → Entry × Timed → List (List Told × List Told)
demands_for s (entry, times) =
    map (λ classes. let p = problem_of (outline_of s) entry times classes in (flat_map told p.now, flat_map told p.before))
    (leaf_cases s.design.sets entry.leaf.params entry.choice.keeps)

abbrev pub demands_in : List ℕ → Option (List (List (List Told × List Told)))
demands_in text = option_map (λ flat_text. let s = script_in (design_of_flat_text flat_text) in map (demands_for s) (zip s.entries (all_timed s))) (flattened text)

-- each text has the demands that were worked out for it
abbrev pub HaveDemands : List (List ℕ × List (List (List Told × List Told))) → Type 0
HaveDemands rows = map (λ (text, demands). demands_in text) rows ≡ map (λ (text, demands). Some demands) rows

-- of each leaf the fault of too many parameters or cases
abbrev pub limits_in : List ℕ → Option (List Answer)
limits_in text = option_map (λ flat_text. let d = design_of_flat_text flat_text in map (λ (leaf, choice). answer_of (cases_fault d leaf choice)) (zip (leaves_of d) (choices_of d))) (flattened text)

-- each text has the faults that were worked out for it
abbrev pub KeepLimits : List (List ℕ × List Answer) → Type 0
KeepLimits rows = map (λ (text, answers). limits_in text) rows ≡ map (λ (text, answers). Some answers) rows

-- ---- short words

-- the times of the definitions and of the claims that a leaf uses
abbrev pub times : List Timing → List Timing → Timed
times picks claims = record { picks = picks; claims = claims }

abbrev pub of_maps : List Timing → Timed
of_maps picks = times picks []

abbrev pub of_claims : List Timing → Timed
of_claims claims = times [] claims

-- a case of named values alone, and of numbers alone
abbrev pub named : List ℕ → List Class
named classes = map Named classes

abbrev pub numbers : List ℕ → List Class
numbers values = map Number values

-- so many classes alone, with the rest, and with the gaps around them
abbrev pub classes : ℕ → AbsType
classes n = record { named = n; rest = beside.None }

abbrev pub and_rest : ℕ → AbsType
and_rest n = record { named = n; rest = beside.One }

abbrev pub and_gaps : ℕ → AbsType
and_gaps n = record { named = n; rest = beside.Gaps }

-- a definition of the first family, by its layer, for the element at this class of the set type P
abbrev pub of_class : Option ℕ → ℕ → Told
of_class layer class = (0, layer, at (scalar (codes "P") class) ∷ [])
