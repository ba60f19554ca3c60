-- The statements and claims of a flattened text, and when those of a text are right.
use Rattle.std.specs.Prelude.{◌≡◌, ℕ, List, [], ◌∷◌, ◌++◌, length, map, All, Option, Some, None, Bool, true, false, if◌then◌else◌, nat_eq, option_map}
use Rattle.smv_core.specs.Values.{Name, Value, Sizes}
use Rattle.smv_core.specs.Types.{values_over}
use Rattle.smv_core.specs.FlatOrder.{Met, claimed, Claimed, design_of}
use Rattle.smv_core.specs.Outcome.{State, outcome}
use Rattle.smv_core.specs.Allowed.{scene_at}
use Rattle.smv_core.specs.Sound.{bound}
use Rattle.smv_core.specs.Walk.{Walk, first}
use Rattle.smv_core.specs.FlatMeaning.{FlatState, FlatElement, flat_walk, flat_outcome, values_in}
use Rattle.smv_core.specs.declared.tree.Kind.{Kind}
use Rattle.smv_core.specs.declared.tree.Text.{Text}
use Rattle.smv_core.specs.declared.flat.Claim.{Claim}
use Rattle.smv_core.specs.declared.flat.FlatStmt.{FlatStmt}
use Rattle.smv_core.specs.declared.flat.FlatItem.{FlatItem}
use Rattle.smv_core.specs.declared.flat.FlatItem.TheVariants as item
use Rattle.smv_core.specs.declared.flat.FlatText.{FlatText}
use Rattle.law_designs.specs.Entries.{Binders, claim, Entry, statement, goal, entries}
use Rattle.law_designs.specs.Flattening.{scope_in, layer_number, within, dotted}
use Rattle.law_designs.specs.Agreement.{numbers_of, numbers_in, IsIndexType, IsRight, StatementIsRight}

-- two numbers of layers are one, or both are none
abbrev pub is_one_layer : Option ℕ → Option ℕ → Bool
is_one_layer None None = true
is_one_layer (Some j) (Some k) = nat_eq j k
is_one_layer _ _ = false

-- the statements of the layer of this number, or those outside layers where there is none, in flat order
abbrev pub acts_of : Option ℕ → List FlatItem → List FlatStmt
acts_of number [] = []
acts_of number (item.Act other act ∷ items) = if is_one_layer number other then act ∷ acts_of number items else acts_of number items
acts_of number (_ ∷ items) = acts_of number items

-- the first result of the statements of a layer, or of those outside layers
abbrev pub flat_text_walk : FlatText → Sizes → FlatState → Option Name → FlatElement → List Value → Kind → Walk
flat_text_walk flat_text sizes t name x every kind = first (map (λ act. flat_walk (numbers_of flat_text sizes) t x every kind act []) (acts_of (option_map (layer_number flat_text.layers) name) flat_text.items))

-- the claims, in flat order
abbrev pub claims_of : List FlatItem → List Claim
claims_of [] = []
claims_of (item.Claim c ∷ items) = c ∷ claims_of items
claims_of (_ ∷ items) = claims_of items

-- the claims of a text on the tree, in flat order
abbrev pub claims_met : List Met → List Claimed
claims_met [] = []
claims_met (claimed c ∷ met) = c ∷ claims_met met
claims_met (_ ∷ met) = claims_met met

-- the types of binders are as the grammar has them
abbrev pub BindersAreRight : Binders → Type 0
BindersAreRight [] = Unit {0}
BindersAreRight ((word, over) ∷ binders) = IsIndexType over × BindersAreRight binders

module _ (text : Text) where
  -- the names in a statement or claim are known where it stands
  abbrev pub EntryIsRight : Entry → Type 0
  EntryIsRight (statement x) = StatementIsRight (scope_in text x.instance) [] x.act
  EntryIsRight (goal instance binders (claim word vars body at)) = IsRight (scope_in text instance) (within [] binders) body × BindersAreRight binders
  EntryIsRight _ = Unit {0}

  -- so it is of each statement and claim of the text
  abbrev pub TextIsRight : Type 0
  TextIsRight = All EntryIsRight (entries text)

module _ (text : Text) (sizes : Sizes) where
  -- The flattened claim has the claim's name behind that of its instance, its parameters have the same values, and for each choice of them its body has the same
  -- outcome.
  abbrev pub IsSameClaim : State → FlatState → Claim → Claimed → Type 0
  IsSameClaim s t c d =
      (c.name ≡ dotted (d.instance ++ d.name ∷ []))
      × (map (λ p. values_in (numbers_in text sizes) p.over) c.params ≡ map (λ (name, over). values_over (design_of text).types sizes over) d.params)
      × ((vs : List Value) → length vs ≡ length d.params → flat_outcome (numbers_in text sizes) t c.body vs ≡ outcome (scene_at (design_of text) sizes d.instance) s d.body (bound d.params vs []))
