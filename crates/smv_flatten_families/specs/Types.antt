-- What a signal of a type has, in numbers.
use Rattle.std.specs.Prelude.{◌≡◌, ℕ, List, [], ◌∷◌, map, flat_map, length, take, Option, Some, None, true, false}
use Rattle.smv_core.specs.Values.{Name, Path}
use Rattle.smv_core.specs.Types as shapes
use Rattle.smv_core.specs.Types.{Family, find_name, shape_of, shape_or_none, one_value, types_from}
use Rattle.smv_core.specs.Values.{scalarset, ordset}
use Rattle.smv_core.specs.declared.flat.Simple.{Simple}
use Rattle.smv_core.specs.declared.tree.Text.{Text}
use Rattle.smv_core.specs.declared.tree.Top.{Top}
use Rattle.smv_core.specs.declared.tree.Top.TheVariants.{SetType, Alias, Module}
use Rattle.smv_core.specs.declared.tree.Field.{Field, out-Field}
use Rattle.smv_core.specs.declared.tree.TypeExpr.{TypeExpr}
use Rattle.law_designs.specs.Numbers.{flat_simple}
use Rattle.smv_flatten_families.specs.Simples.{AreSimples, numbering}
use Rattle.smv_flatten_families.specs.declared.types.Form.{Form}
use Rattle.smv_flatten_families.specs.declared.types.Form.TheVariants as form
use Rattle.smv_flatten_families.specs.declared.types.Typed.{Typed}
use Rattle.smv_flatten_families.specs.declared.types.Types.{Types}

-- a family of a type in numbers: the names that lead to it, its index types and its value's type
pub record Leaf : Type 0 where
  pub path : Path
  pub over : List Simple
  pub value : Simple

-- a family in numbers
abbrev pub leaf_of : Text → Family → Leaf
leaf_of text f = record { path = f.path; over = map (flat_simple (numbering text)) f.over; value = flat_simple (numbering text) f.value }

-- one value
abbrev pub one_leaf : Simple → List Leaf
one_leaf t = record { path = []; over = []; value = t } ∷ []

-- under one more index, in front of the others
abbrev pub under : Simple → Leaf → Leaf
under t leaf = record leaf { over = t ∷ leaf.over }

-- behind one more name
abbrev pub behind : Name → Leaf → Leaf
behind name leaf = record leaf { path = name ∷ leaf.path }

-- the types of a text, in their order
abbrev pub types_of : Text → shapes.Types
types_of text = types_from [] text.tops

-- what a signal has of a type that is written behind so many types
unfoldable pub leaves : Text → ℕ → TypeExpr → List Leaf
leaves text place of = map (leaf_of text) (shape_of (take place (types_of text)) of)

-- what it has of the type of a name, among so many types
unfoldable pub named_leaves : Text → ℕ → Name → List Leaf
named_leaves text place name = map (leaf_of text) (shape_or_none (find_name (take place (types_of text)) name))

-- the type of one value, where there is no field and no index
abbrev pub alone : List Leaf → Option Simple
alone (leaf ∷ []) = by leaf.path leaf.over leaf.value
  where
    by : Path → List Simple → Simple → Option Simple
    by [] [] t = Some t
    by _ _ t = None
alone _ = None

-- an array, under an index or under none
abbrev pub array_leaves : Option Simple → List Leaf → List Leaf
array_leaves (Some t) ls = map (under t) ls
array_leaves None ls = []

-- a field
abbrev pub field_leaves : Text → ℕ → Field → List Leaf
field_leaves text place field = flat_map (λ word. map (behind word.name) (leaves text place (out-Field field).of)) (out-Field field).names

-- what a signal of a form has
abbrev pub form_leaves : Text → Form → List Leaf
form_leaves text (form.Single t) = one_leaf t
form_leaves text (form.Array index of place) = array_leaves index (leaves text place of.now)
form_leaves text (form.Struct fields place) = flat_map (field_leaves text place) fields.now
form_leaves text form.Nothing = []

-- the types that a top adds
abbrev pub types_in_top : shapes.Types → Top → shapes.Types
types_in_top known (SetType word false span at) = (word.name, one_value (scalarset word.name)) ∷ []
types_in_top known (SetType word true span at) = (word.name, one_value (ordset word.name)) ∷ []
types_in_top known (Alias word of at) = (word.name, shape_of known of) ∷ []
types_in_top known (Module word formals body at) = []

-- types with what their signals have
abbrev pub with_leaves : Text → shapes.Types → List (Name × List Leaf)
with_leaves text types = map (λ pair. (pair.0, map (leaf_of text) pair.1)) types

-- the types that a top adds behind so many types
unfoldable pub top_leaves : Text → ℕ → Top → List (Name × List Leaf)
top_leaves text place top = with_leaves text (types_in_top (take place (types_of text)) top)

-- a type that was found, or none
abbrev pub typed : Text → Option Typed → List (Name × List Leaf)
typed text None = []
typed text (Some found) = (found.name.now, form_leaves text found.form) ∷ []

-- the first types of a text
pub record AreTypesSoFar (types : Types) : Type 0 where
  pub simples : AreSimples types.simples
  pub names : types.names ≡ map (λ pair. pair.0) (take (length types.forms.items) (types_of types.simples.text.now))
  pub forms : map (form_leaves types.simples.text.now) types.forms.items ≡ map (λ pair. map (leaf_of types.simples.text.now) pair.1) (take (length types.forms.items) (types_of types.simples.text.now))

-- all types of a text
pub record AreTypes (types : Types) : Type 0 where
  pub so_far : AreTypesSoFar types
  pub all : length types.forms.items ≡ length (types_of types.simples.text.now)
