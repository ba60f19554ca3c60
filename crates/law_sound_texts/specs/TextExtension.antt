-- The law of extension of a text.
use Rattle.std.specs.Prelude.{◌≡◌, ℕ, List, [], ◌∷◌, filter, not, slice_get, Option, Some, None, option_map, All, Contains, true}
use Rattle.std.specs.List.{AllZip}
use Rattle.smv_core.specs.Values.{Value, Sizes}
use Rattle.smv_core.specs.Types.{Family}
use Rattle.smv_core.specs.FlatOrder.{TextDesign, design_of}
use Rattle.smv_core.specs.Outcome.{State}
use Rattle.smv_core.specs.Allowed.{Base, base_of, allowed_by_base}
use Rattle.smv_core.specs.Sound.{indexes_in, AtEachTime, IsTyped, IsRun}
use Rattle.smv_core.specs.declared.tree.Text.{Text}
use Rattle.smv_core.specs.declared.flat.Def.{Def}
use Rattle.law_designs.specs.Flattening.{flatten, layer_number}
use Rattle.law_designs.specs.Definitions.{design_of_flat_text}
use Rattle.law_obligations.specs.Outlines as outline

module _ (d : TextDesign) (sizes : Sizes) where
  -- each element of each family that is not abstract
  abbrev pub EachImplemented : (Family → List Value → Type 0) → Type 0
  EachImplemented P = All (λ f. All (P f) (indexes_in sizes f)) (filter (λ (f : Family). not f.is_abstract) d.families)

  -- each such element has a value that its base definition allows
  abbrev pub MeetsImplementation : Option State → State → Type 0
  MeetsImplementation before now = EachImplemented (λ f vs. Contains (allowed_by_base d sizes f (record { path = f.path; indexes = vs }) before now) (now f.path vs))

  -- a behaviour of the implementation: a nonempty list of states, the earliest first, in which the base definitions of all families that are not abstract hold
  abbrev pub IsBehaviour : List State → Type 0
  IsBehaviour [] = ⊥
  IsBehaviour (s ∷ behaviour) = All (IsTyped d sizes) (s ∷ behaviour) × AtEachTime MeetsImplementation None (s ∷ behaviour)

  -- two states give those elements the same values
  abbrev pub AgreeImplemented : State → State → Type 0
  AgreeImplemented s t = EachImplemented (λ f vs. t f.path vs ≡ s f.path vs)

module _ (text : Text) where
  -- a base definition of the text and one of its design are of one layer, or there is none
  abbrev pub IsSameLayer : Base → Option Def → Type 0
  IsSameLayer None None = Unit {0}
  IsSameLayer None (Some def) = ⊥
  IsSameLayer (Some layer) None = ⊥
  IsSameLayer (Some layer) (Some def) = option_map (layer_number (flatten text).layers) layer ≡ def.layer

  -- so it is for each abstract family
  abbrev pub LayersAreSame : Type 0
  LayersAreSame = (k : ℕ) (f : Family) → slice_get (design_of text).families k ≡ Some f → f.is_abstract ≡ true → IsSameLayer (base_of (design_of text) f) (outline.base_of (design_of_flat_text (flatten text)) k)

  -- at any sizes each behaviour of the implementation is that of a run: the same states but for the abstract families
  abbrev pub KeepsTextBehaviours : Type 0
  KeepsTextBehaviours = (sizes : Sizes) (behaviour : List State) → IsBehaviour (design_of text) sizes behaviour →
      (run : List State) × AllZip (AgreeImplemented (design_of text) sizes) behaviour run × IsRun (design_of text) sizes run
