-- The values that a flattened text allows an element.
use Rattle.std.specs.Prelude.{List, [], ◌∷◌, zip, Option, Some, None, Bool, ◌&&◌, if◌then◌else◌, nat_eq, unwrap_or, option_map}
use Rattle.std.specs.List.{list_any, list_all}
use Rattle.smv_core.specs.Values.{Name, Value, Sizes}
use Rattle.smv_core.specs.Types.{Family}
use Rattle.smv_core.specs.Outcome.{State}
use Rattle.smv_core.specs.Walk.{same_kind}
use Rattle.smv_core.specs.Assignments.{fits}
use Rattle.smv_core.specs.FlatMeaning.{FlatState, FlatElement}
use Rattle.smv_core.specs.declared.tree.Kind.{Kind}
use Rattle.smv_core.specs.declared.tree.Kind.TheVariants.{Comb, Init, Next}
use Rattle.smv_core.specs.declared.flat.FlatText.{FlatText}
use Rattle.law_designs.specs.Flattening.{FlatAssigned, flat_assignments, layer_number}
use Rattle.law_designs.specs.Agreement.{AreSameStates}
use Rattle.law_designs.specs.WholeText.{acts_of, flat_text_walk}

-- an assignment of the kind that concerns the element: its constant indexes are the element's
abbrev pub flat_concerns : Kind → FlatElement → FlatAssigned → Bool
flat_concerns kind x a = same_kind a.kind kind && (nat_eq a.family x.family && list_all (λ (i, v). fits i v) (zip a.indexes x.indexes))

-- for an element whose type has these values, in a layer or outside layers
module _ (flat_text : FlatText) (sizes : Sizes) (layer : Option Name) (x : FlatElement) (every : List Value) where
  -- some assignment of the kind concerns the element
  abbrev pub flat_text_is_concerned : Kind → Bool
  flat_text_is_concerned kind = list_any (λ act. list_any (flat_concerns kind x) (flat_assignments act)) (acts_of (option_map (layer_number flat_text.layers) layer) flat_text.items)

  -- what an element that no result of `next` fixes may be: its value at the time before, if some `next` concerns it
  abbrev pub flat_text_kept : FlatState → List Value
  flat_text_kept old = if flat_text_is_concerned Next then old x.family x.indexes ∷ [] else every

  -- at time 0, where there is no state before, and at a later time
  abbrev pub flat_text_stepped : Option FlatState → FlatState → List Value
  flat_text_stepped None now = unwrap_or (flat_text_walk flat_text sizes now layer x every Init) every
  flat_text_stepped (Some old) now = unwrap_or (flat_text_walk flat_text sizes old layer x every Next) (flat_text_kept old)

  -- the values that are allowed in the state now, after the state before
  abbrev pub flat_text_allowed : Option FlatState → FlatState → List Value
  flat_text_allowed before now = if flat_text_is_concerned Comb then unwrap_or (flat_text_walk flat_text sizes now layer x every Comb) every else flat_text_stepped before now

-- the states before are the same, or there is none
abbrev pub AreSameBefore : List Family → Option State → Option FlatState → Type 0
AreSameBefore families None None = Unit {0}
AreSameBefore families (Some s) (Some t) = AreSameStates families s t
AreSameBefore families _ _ = ⊥
