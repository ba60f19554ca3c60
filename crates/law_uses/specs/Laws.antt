-- The laws: what the crate's public functions say.
use Rattle.std.specs.Prelude.{◌≡◌, ℕ, List, [], length, slice_get, Some, false, true, nat_eq}
use Rattle.smv_core.specs.declared.flat.Design.{Design}
use Rattle.smv_core.specs.declared.flat.Family.{Family}
use Rattle.smv_core.specs.declared.flat.Claim.{Claim}
use Rattle.smv_core.specs.declared.flat.SetInfo.{SetInfo}
use Rattle.smv_core.specs.declared.flat.Leaf.{Leaf}
use Rattle.smv_core.specs.declared.flat.Choice.{Choice}
use Rattle.smv_core.specs.declared.flat.Pick.{Pick}
use Rattle.smv_core.specs.declared.flat.Assumed.{Assumed}
use Rattle.smv_core.specs.declared.flat.Keep.{Keep}
use Rattle.law_obligations.specs.Sets.{Has}
use Rattle.law_obligations.specs.Units.{units_of}
use Rattle.law_splits.specs.Leaves.{leaves_of}
use Rattle.law_uses.specs.Uses.{is_defined_in}
use Rattle.law_uses.specs.Choices.{own_map, is_own, choice_of, choices_of}
use Rattle.law_uses.specs.UseFaults.{later, faults_of_uses}

-- a choice for each leaf
abbrev pub OneChoiceEach : Type 0
OneChoiceEach = (d : Design) → length (choices_of d) ≡ length (leaves_of d)

-- a layer that is chosen defines the family
abbrev pub IsDefined : Design → Pick → Type 0
IsDefined d p = (layer : ℕ) → p.layer ≡ Some layer → is_defined_in d layer p.family ≡ true

-- what a choice names is there: families, the layers' definitions of them, claims and set types
pub record IsThere (d : Design) (choice : Choice) : Type 0 where
  pub families : (p : Pick) → Has choice.picks p → (f : Family) × (slice_get d.families p.family ≡ Some f)
  pub definitions : (p : Pick) → Has choice.picks p → IsDefined d p
  pub claims : (used : Assumed) → Has choice.claims used → (claim : Claim) × (slice_get d.claims used.claim ≡ Some claim)
  pub sets : (keep : Keep) → Has choice.keeps keep → (info : SetInfo) × (slice_get d.sets keep.set ≡ Some info)

abbrev pub ChoicesAreThere : Type 0
ChoicesAreThere = (d : Design) → (choice : Choice) → Has (choices_of d) choice → IsThere d choice

-- a leaf's own map is no pick of its choice
abbrev pub OwnIsNoPick : Type 0
OwnIsNoPick = (d : Design) → (leaf : Leaf) → (p : Pick) → Has (choice_of d (units_of d) leaf).picks p → is_own (own_map d (units_of d) leaf) p ≡ false

-- no two leaves have one name
abbrev pub AreNamedApart : List Leaf → Type 0
AreNamedApart leaves = (a b : Leaf) → Has leaves a → Has leaves b → a.name ≡ b.name → a ≡ b

-- where a design has no fault of uses, each choice has at most one pick of a family, and names each claim and each set type once
pub record IsOfOnes (choice : Choice) : Type 0 where
  pub picks : later (λ (p q : Pick). nat_eq p.family q.family) choice.picks ≡ []
  pub claims : later (λ (a b : Assumed). nat_eq a.claim b.claim) choice.claims ≡ []

abbrev pub ChoicesAreOfOnes : Type 0
ChoicesAreOfOnes = (d : Design) → AreNamedApart (leaves_of d) → faults_of_uses d ≡ [] → (choice : Choice) → Has (choices_of d) choice → IsOfOnes choice
