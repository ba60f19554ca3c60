-- What the laws of definitions say.
use Rattle.std.specs.Prelude.{◌≡◌, ℕ, List, [], ◌∷◌, length, slice_get, Option, Some, None, option_map, Bool, false, true, ◌&&◌, nat_eq, nat_le, nat_lt}
use Rattle.std.specs.List.{list_any, list_all}
use Rattle.smv_core.specs.Values.{Name, Sizes, Value}
use Rattle.smv_core.specs.Types.{Family}
use Rattle.smv_core.specs.FlatOrder.{design_of}
use Rattle.smv_core.specs.Outcome.{State, family_at}
use Rattle.smv_core.specs.Walk.{Element}
use Rattle.smv_core.specs.Allowed.{allowed, every_value}
use Rattle.smv_core.specs.FlatMeaning.{FlatElement, FlatState, flat_allowed}
use Rattle.smv_core.specs.declared.tree.Text.{Text}
use Rattle.smv_core.specs.declared.flat.Family.{Family as FlatFamily}
use Rattle.smv_core.specs.declared.flat.FlatText.{FlatText}
use Rattle.smv_core.specs.declared.flat.Def.{Def}
use Rattle.law_designs.specs.Agreement.{AreSameStates, flat_element, numbers_in, numbers_of}
use Rattle.law_designs.specs.Flattening.{flatten, layer_number, scope_in}
use Rattle.law_designs.specs.WholeText.{is_one_layer}
use Rattle.law_designs.specs.FlatTextAllowed.{AreSameBefore, flat_text_allowed}
use Rattle.law_designs.specs.Standing.{Standing}
use Rattle.law_designs.specs.SingleFaults.{assigned_in}

-- the definition allows each element of its family, at all sizes and in all states, what the flattened text allows it in the definition's layer or outside layers
abbrev pub AllowsTheSame : FlatText → Def → Type 0
AllowsTheSame flat_text def = (sizes : Sizes) (layer : Option Name) → option_map (layer_number flat_text.layers) layer ≡ def.layer → (x : FlatElement) → x.family ≡ def.family →
    (every : List Value) (before : Option FlatState) (now : FlatState) → flat_allowed (numbers_of flat_text sizes) def x every before now ≡ flat_text_allowed flat_text sizes layer x every before now

-- the definition allows each element of its family in a text what the text allows it in the definition's layer or outside layers
abbrev pub AllowsAsTheText : Text → Def → Type 0
AllowsAsTheText text def = (sizes : Sizes) (layer : Option Name) → option_map (layer_number (flatten text).layers) layer ≡ def.layer →
    (x : Element) (f : Family) → family_at (design_of text).families x.path ≡ Some f → (flat_element (scope_in text []) x).family ≡ def.family →
    (before : Option State) (flat_before : Option FlatState) → AreSameBefore (design_of text).families before flat_before → (now : State) (flat_now : FlatState) → AreSameStates (design_of text).families now flat_now →
    flat_allowed (numbers_in text sizes) def (flat_element (scope_in text []) x) (every_value (design_of text) sizes x) flat_before flat_now ≡ allowed (design_of text) sizes layer x before now

-- how many indexes a family has
abbrev pub index_count : FlatText → ℕ → ℕ
index_count flat_text family = of_family (slice_get flat_text.families family)
  where
    of_family : Option FlatFamily → ℕ
    of_family (Some f) = length f.over
    of_family None = 0

-- no left side of the text has more indexes than its family
abbrev pub left_sides_are_whole : FlatText → Bool
left_sides_are_whole flat_text = list_all (λ (a : Standing). nat_le (length a.left) (index_count flat_text a.family)) (assigned_in flat_text)

-- the definition is of this family, in the layer of this number or outside layers
abbrev pub is_of_family : Option ℕ → ℕ → Def → Bool
is_of_family number family def = is_one_layer number def.layer && nat_eq def.family family

-- an element whose family has no definition in a layer, or outside layers, is free there
abbrev pub IsFreeWithout : FlatText → List Def → Type 0
IsFreeWithout flat_text defs = (sizes : Sizes) (layer : Option Name) (x : FlatElement) → list_any (is_of_family (option_map (layer_number flat_text.layers) layer) x.family) defs ≡ false →
    (every : List Value) (before : Option FlatState) (now : FlatState) → flat_text_allowed flat_text sizes layer x every before now ≡ every

-- no two definitions are of one family in one definition set
abbrev pub AreApart : List Def → Type 0
AreApart [] = Unit {0}
AreApart (def ∷ defs) = (list_any (is_of_family def.layer def.family) defs ≡ false) × AreApart defs

-- the definitions stand in the order of their places
abbrev pub AreInOrder : List Def → Type 0
AreInOrder [] = Unit {0}
AreInOrder (def ∷ defs) = (list_all (λ (other : Def). nat_lt def.place other.place) defs ≡ true) × AreInOrder defs
