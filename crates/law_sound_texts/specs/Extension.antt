-- The law of extension: after each state any elements can be chosen anew as their base definitions allow. So what a design adds to its implementation, the abstract signals, takes no behaviour from it; and there are runs.
use Rattle.std.specs.Prelude.{◌≡◌, ◌≤◌, ℕ, List, filter, length, not, slice_get, Option, Some, None, Bool, true, false}
use Rattle.std.specs.List.{AllZip}
use Rattle.smv_core.specs.Values.{Value, Sizes}
use Rattle.smv_core.specs.FlatMeaning.{Numbered, FlatState, flat_allowed}
use Rattle.smv_core.specs.declared.flat.Family.{Family}
use Rattle.smv_core.specs.declared.flat.Def.{Def}
use Rattle.smv_core.specs.declared.flat.Design.{Design}
use Rattle.smv_core.specs.declared.flat.FlatText.{FlatText}
use Rattle.law_designs.specs.Standing.{Standing}
use Rattle.law_designs.specs.SingleFaults.{assigned_in}
use Rattle.law_designs.specs.Laws.{index_count}
use Rattle.law_obligations.specs.Sets.{Has}
use Rattle.law_obligations.specs.Soundness.{AreSizes, at_sizes, values_of_family, values_over, IsTyped, IsRun}
use Rattle.law_obligations.specs.Outlines.{names_of, base_of, bases}
use Rattle.law_obligations.specs.Checked.{IsFilled}
use Rattle.law_designs.specs.Reading.{Reading}
use Rattle.law_designs.specs.LayerFaults.{is_abstract, assignments_of}

-- each left side has an index for each type of its family
abbrev pub HasWholeLeftSides : Design → Type 0
HasWholeLeftSides d = (def : Def) → Has d.defs def → (f : Family) → slice_get d.families def.family ≡ Some f → (a : Reading) → Has (assignments_of def) a → length f.over ≤ length a.left

-- so it is in a flattened text
abbrev pub FlatTextHasWholeLeftSides : FlatText → Type 0
FlatTextHasWholeLeftSides flat_text = (a : Standing) → Has (assigned_in flat_text) a → index_count flat_text a.family ≤ length a.left

-- no family has a type without values
abbrev pub AreFilled : Design → Type 0
AreFilled d = (f : Family) → Has d.families f → IsFilled d f.value

-- two states give the elements of each family that is not among these the same values
abbrev pub AgreeOutside : (ℕ → Bool) → FlatState → FlatState → Type 0
AgreeOutside among s t = (family : ℕ) → among family ≡ false → (indexes : List Value) → t family indexes ≡ s family indexes

-- the state before is typed, if there is one
abbrev pub IsTypedBefore : Numbered → Option FlatState → Type 0
IsTypedBefore n None = Unit {0}
IsTypedBefore n (Some old) = IsTyped n old

module _ (d : Design) where
  -- a state with the values that another has of the elements that are not chosen, and values of the others that their base definitions allow
  pub record IsChosen (sizes : Sizes) (chosen : ℕ → List Value → Bool) (before : Option FlatState) (s t : FlatState) : Type 0 where
    pub is_typed : IsTyped (at_sizes (names_of d) sizes) t
    pub agrees : (family : ℕ) (indexes : List Value) → chosen family indexes ≡ false → t family indexes ≡ s family indexes
    pub allows : (family : ℕ) (f : Family) → slice_get d.families family ≡ Some f → (def : Def) → base_of d family ≡ Some def →
        (indexes : List Value) → Has (values_over (at_sizes (names_of d) sizes) f.over) indexes → chosen family indexes ≡ true →
        Has (flat_allowed (at_sizes (names_of d) sizes) def (record { family = family; indexes = indexes }) (values_of_family (at_sizes (names_of d) sizes) (slice_get d.families family)) before t) (t family indexes)

  -- whichever elements are to be chosen, after each state there is such a state, at any sizes
  abbrev pub ElementsCanBeChosen : Type 0
  ElementsCanBeChosen = (sizes : Sizes) (chosen : ℕ → List Value → Bool) (before : Option FlatState) → IsTypedBefore (at_sizes (names_of d) sizes) before →
      (s : FlatState) → IsTyped (at_sizes (names_of d) sizes) s → (t : FlatState) × IsChosen sizes chosen before s t

  -- the family is that of an abstract signal
  abbrev pub is_added : ℕ → Bool
  is_added family = is_abstract d (slice_get d.families family)

  -- the base definitions of the families that are not among these
  abbrev pub bases_outside : (ℕ → Bool) → List Def
  bases_outside among = filter (λ (def : Def). not (among def.family)) (bases d)

  -- at any sizes each behaviour of the implementation, states in which the base definitions of all families that are not abstract hold, is that of a run: the same states
  -- but for the abstract families
  abbrev pub KeepsBehaviours : Type 0
  KeepsBehaviours = (sizes : Sizes) (behaviour : List FlatState) → IsRun (at_sizes (names_of d) sizes) (bases_outside is_added) behaviour →
      (run : List FlatState) × AllZip (AgreeOutside is_added) behaviour run × IsRun (at_sizes (names_of d) sizes) (bases d) run

  -- at all sizes there is a run of each length
  abbrev pub HasRuns : Type 0
  HasRuns = (sizes : Sizes) → AreSizes (names_of d) sizes → (times : ℕ) → (run : List FlatState) × (length run ≡ times) × IsRun (at_sizes (names_of d) sizes) (bases d) run
