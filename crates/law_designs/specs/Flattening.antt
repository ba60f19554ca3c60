-- The flattened text.
use Rattle.std.specs.Prelude.{ℕ, ◌+◌, ◌-◌, List, [], ◌∷◌, ◌++◌, map, length, flat_map, filter, Bool, not, option_map}
use Rattle.std.specs.Str.{bytes_eq}
use Rattle.std.specs.List.{position_or_len, join_with_byte}
use Rattle.smv_core.specs.Values.{Name, Path}
use Rattle.smv_core.specs.Types.{Family, types_from, names_of}
use Rattle.smv_core.specs.Outcome.{same_path}
use Rattle.smv_core.specs.Assignments.{Around, any, Index}
use Rattle.smv_core.specs.FlatMeaning.{flat_index}
use Rattle.smv_core.specs.declared.tree.Kind.{Kind}
use Rattle.smv_core.specs.declared.tree.Word.{Word}
use Rattle.smv_core.specs.declared.tree.Span.{Span}
use Rattle.smv_core.specs.declared.tree.Text.{Text}
use Rattle.smv_core.specs.declared.tree.Top.{Top}
use Rattle.smv_core.specs.declared.tree.Top.TheVariants.{SetType}
use Rattle.smv_core.specs.declared.tree.Ref.{Ref}
use Rattle.smv_core.specs.declared.tree.Use.{Use}
use Rattle.smv_core.specs.declared.tree.Use.TheVariants.{Plain, Early, Keep}
use Rattle.smv_core.specs.declared.tree.Pair.{Pair}
use Rattle.smv_core.specs.declared.flat.SetInfo.{SetInfo}
use Rattle.smv_core.specs.declared.flat.Family.{Family as FlatFamily}
use Rattle.smv_core.specs.declared.flat.Param.{Param}
use Rattle.smv_core.specs.declared.flat.FlatItem.{FlatItem}
use Rattle.smv_core.specs.declared.flat.FlatItem.TheVariants as item
use Rattle.smv_core.specs.declared.flat.FlatStmt.{FlatStmt, Assign, If', Block', Default', Forall', Row_of-FlatStmt, end_of-FlatStmt, more_of-FlatStmt}
use Rattle.smv_core.specs.declared.flat.FlatPair.{FlatPair}
use Rattle.smv_core.specs.declared.flat.FlatText.{FlatText}
use Rattle.smv_mentions.specs.Mentions.{Mention, lists_constants}
use Rattle.smv_mentions.specs.Scopes.{pieces}
use Rattle.law_designs.specs.Numbers.{Scope, flat_simple, flat_over}
use Rattle.law_designs.specs.Statements.{flat_expr, flat_stmt}
use Rattle.law_designs.specs.Entries.{Binders, Goal, claim, split, using, Entry, layer, statement, goal, placed_families, entries}
use Rattle.smv_core.specs.Rows.{one_flat_stmt}

-- ---- names

-- the byte `.`
abbrev pub dot : ℕ
dot = 46

-- the names that lead to something as one name, with a dot between each two
abbrev pub dotted : Path → Name
dotted path = join_with_byte dot path

-- each once, at its first place
abbrev pub different : {X : Type 0} → (X → X → Bool) → List X → List X
different same [] = []
different same (x ∷ xs) = x ∷ filter (λ y. not (same x y)) (different same xs)

-- ---- what is listed in front

-- a set type, with its size where it is declared
abbrev pub set_of : Top → List SetInfo
set_of (SetType word ordered span at) = record { name = word.name; ordered = ordered; size = option_map (λ (s : Span). s.high + 1 - s.low) span } ∷ []
set_of _ = []

-- the list of an enumeration
abbrev pub enum_of : Mention → List (List Name)
enum_of (lists_constants words) = names_of words ∷ []
enum_of _ = []

-- the enumerations of a text, those of unused modules and types too, in the order in which they are written
abbrev pub enums_of : Text → List (List Name)
enums_of text = different same_path (flat_map (λ piece. flat_map enum_of piece.mentions) (pieces text))

-- a layer's head
abbrev pub layer_of : Entry → List Name
layer_of (layer name) = name ∷ []
layer_of _ = []

-- the layers, in the order in which they are met
abbrev pub layers_of : List Entry → List Name
layers_of met = different bytes_eq (flat_map layer_of met)

-- ---- the scope of a text

-- where the statements of an instance stand
abbrev pub scope_in : Text → Path → Scope
scope_in text instance = record {
  types = types_from [] text.tops;
  sets = flat_map set_of text.tops;
  enums = enums_of text;
  families = map (λ (f, at). f) (placed_families text);
  instance = instance;
}

-- the variables that are bound inside binders, the innermost first
abbrev pub within : Around → Binders → Around
within vars [] = vars
within vars ((word, over) ∷ binders) = within ((word.name, any) ∷ vars) binders

module _ (scope : Scope) where
  -- a family by its dotted name, with its types
  abbrev pub flat_family : Family × ℕ → FlatFamily
  flat_family (f, at) = record { name = dotted f.path; over = map (flat_simple scope) f.over; value = flat_simple scope f.value; is_abstract = f.is_abstract; at = at }

  -- ---- binders

  -- the parameters that binders bind, the first at this number
  abbrev pub params_from : ℕ → Binders → List Param
  params_from k [] = []
  params_from k ((word, over) ∷ binders) = record { var = k; over = flat_over scope over; name = word.name } ∷ params_from (k + 1) binders

  -- ---- references to units

  -- a name of the instance at this place
  abbrev pub prefix_at : ℕ → List Word
  prefix_at at = map (λ name. record { name = name; at = at }) scope.instance

  -- a reference with the names of its instance in front
  abbrev pub whole : Ref → Ref
  whole of = record of { path = prefix_at of.at ++ of.path }

  -- what a `using` names; set types and the names in braces are no names of the instance
  abbrev pub whole_use : Use → Use
  whole_use (Plain of) = Plain (whole of)
  whole_use (Early of) = Early (whole of)
  whole_use (Keep set names at) = Keep set names at

  -- an equation of a split
  abbrev pub flat_pair : Around → Pair → FlatPair
  flat_pair vars pair = record { left = flat_expr scope vars pair.left; right = pair.right; at = pair.at }

  -- a name of the instance
  abbrev pub own_name : Word → Name
  own_name word = dotted (scope.instance ++ word.name ∷ [])

  -- a claim, a split or a `using` inside binders; the claim's place is set later
  abbrev pub flat_goal : Binders → Goal → FlatItem
  flat_goal binders (claim word vars body at) =
      item.Claim (record { name = own_name word; vars = vars; params = params_from 0 binders; body = flat_expr scope (within [] binders) body; place = 0; at = at })
  flat_goal binders (split word vars of pairs at) =
      item.Split (record { name = own_name word; vars = vars; of = whole of; bound = params_from 0 binders; pairs = map (flat_pair (within [] binders)) pairs; at = at })
  flat_goal binders (using uses proves at) =
      item.Using (record { prefix = dotted scope.instance; bound = params_from 0 binders; uses = map whole_use uses; proves = map whole proves; at = at })

-- ---- assignments in flat order

-- an assignment of the flattened text, by its kind, its family's number and its indexes
pub record FlatAssigned : Type 0 where
  pub kind : Kind
  pub family : ℕ
  pub indexes : List Index

-- the assignments that stand in a statement
abbrev mutual
  pub flat_assignments : FlatStmt → List FlatAssigned
  flat_assignments (Assign kind family left value at) = record { kind = kind; family = family; indexes = map flat_index left } ∷ []
  flat_assignments (If' cond l (one_flat_stmt left) r (one_flat_stmt right)) = flat_assignments left ++ flat_assignments right
  flat_assignments (Block' shape parts) = flat_assignments_in parts
  flat_assignments (Default' l (one_flat_stmt left) r (one_flat_stmt right)) = flat_assignments left ++ flat_assignments right
  flat_assignments (Forall' var over shape (one_flat_stmt body)) = flat_assignments body

  pub flat_assignments_in : {m : _} → Row_of-FlatStmt m → List FlatAssigned
  flat_assignments_in end_of-FlatStmt = []
  flat_assignments_in (more_of-FlatStmt part rest) = flat_assignments part ++ flat_assignments_in rest

-- each claim with its place: how many assignments, connections and claims are met before it
abbrev pub with_places : ℕ → List FlatItem → List FlatItem
with_places k [] = []
with_places k (item.Act number act ∷ items) = item.Act number act ∷ with_places (k + length (flat_assignments act)) items
with_places k (item.Claim c ∷ items) = item.Claim (record c { place = k }) ∷ with_places (k + 1) items
with_places k (other ∷ items) = other ∷ with_places k items

-- ---- the whole

-- a layer, by its place among the layers
abbrev pub layer_number : List Name → Name → ℕ
layer_number layers name = position_or_len (bytes_eq name) layers

-- an entry of a text with these layers
abbrev pub flat_entry : Text → List Name → Entry → List FlatItem
flat_entry text layers (layer name) = []
flat_entry text layers (statement x) = item.Act (option_map (layer_number layers) x.layer) (flat_stmt (scope_in text x.instance) [] x.act) ∷ []
flat_entry text layers (goal instance binders g) = flat_goal (scope_in text instance) binders g ∷ []

-- The flattened text. For a text with a fault of names, kinds, ranges or sizes it may be anything.
abbrev pub flatten : Text → FlatText
flatten text =
    let scope = scope_in text [] in
    let met = entries text in
    let layers = layers_of met in
    record {
      sets = scope.sets;
      enums = scope.enums;
      layers = layers;
      families = map (flat_family scope) (placed_families text);
      items = with_places 0 (flat_map (flat_entry text layers) met);
    }
