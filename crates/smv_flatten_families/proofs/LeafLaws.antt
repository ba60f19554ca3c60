-- What signals have, on types that are made of lists and values.
use Rattle.std.proofs.Common.{◌≡◌, ℕ, List, [], ◌∷◌, ◌++◌, map, flat_map, take, Bool, refl, ap, sym, ◌∙◌}
use Rattle.std.specs.Prelude.{Option, Some, None, option_map}
use Rattle.std.specs.List.{position_or_len}
use Rattle.std.proofs.lemmas.List.{map-append}
use Rattle.smv_core.specs.Values.{Name, Path}
use Rattle.smv_core.specs.Values as values
use Rattle.smv_core.specs.Types as shapes
use Rattle.smv_core.specs.Types.{Shape, names_of, simple_of, array_of, indexed, shape_of, shape_of_fields}
use Rattle.smv_core.specs.Outcome.{same_path}
use Rattle.smv_core.specs.declared.flat.Simple.{Simple}
use Rattle.smv_core.specs.declared.flat.Simple.TheVariants.{Range as FlatRange, Enum as FlatEnum}
use Rattle.smv_core.specs.declared.tree.Word.{Word}
use Rattle.smv_core.specs.declared.tree.Span.{Span}
use Rattle.smv_core.specs.declared.tree.Text.{Text}
use Rattle.smv_core.specs.declared.tree.Field.{Field, out-Field}
use Rattle.smv_core.specs.declared.tree.TypeExpr.{TypeExpr, Boolean, Range, Enum, Named, Struct, Struct', Array, Row_of-Field, end_of-Field, more_of-Field, items-the_row-Field, items_hidden-the_row-Field-1}
use mathlib.Core.Former.{Count}
use Rattle.law_designs.specs.Numbers.{flat_simple}
use Rattle.smv_mentions.proofs.Computing.{computing}
use Rattle.smv_flatten_families.specs.Simples.{numbering}
use Rattle.smv_flatten_families.specs.Types.{Leaf, leaf_of, one_leaf, under, behind, types_of, leaves, named_leaves, alone, array_leaves, field_leaves}

-- ---- one value

alone-family : (text : Text) (path : Path) (over : List values.Simple) (value : values.Simple) (is_abstract : Bool)
    → alone (leaf_of text (record { path = path; over = over; value = value; is_abstract = is_abstract }) ∷ []) ≡ option_map (flat_simple (numbering text)) (simple_of (record { path = path; over = over; value = value; is_abstract = is_abstract } ∷ []))
alone-family text [] [] value is_abstract = refl
alone-family text [] (t ∷ over) value is_abstract = refl
alone-family text (name ∷ path) over value is_abstract = refl

-- the type of one value that a type is, in numbers
pub alone-of : (text : Text) (s : Shape) → alone (map (leaf_of text) s) ≡ option_map (flat_simple (numbering text)) (simple_of s)
alone-of text [] = refl
alone-of text (f ∷ []) = alone-family text f.path f.over f.value f.is_abstract
alone-of text (f ∷ g ∷ s) = refl

under-leaf : (t : Simple) (path : Path) (over : List Simple) (value : Simple) → alone (under t (record { path = path; over = over; value = value }) ∷ []) ≡ None
under-leaf t [] over value = refl
under-leaf t (name ∷ path) over value = refl

under-alone : (t : Simple) (ls : List Leaf) → alone (map (under t) ls) ≡ None
under-alone t [] = refl
under-alone t (leaf ∷ []) = under-leaf t leaf.path leaf.over leaf.value
under-alone t (leaf ∷ other ∷ ls) = refl

-- an array is no type of one value
pub alone-array : (index : Option Simple) (ls : List Leaf) → alone (array_leaves index ls) ≡ None
alone-array None ls = refl
alone-array (Some t) ls = under-alone t ls

IsNamed : Path → Type 0
IsNamed [] = ⊥
IsNamed (name ∷ path) = Unit {0}

AreNamed : List Leaf → Type 0
AreNamed [] = Unit {0}
AreNamed (leaf ∷ ls) = IsNamed leaf.path × AreNamed ls

named-alone : (ls : List Leaf) → AreNamed ls → alone ls ≡ None
unfolding IsNamed AreNamed
named-alone [] h = refl
named-alone (leaf ∷ []) h = by leaf.path leaf.over leaf.value h.0
  where
    by : (path : Path) (over : List Simple) (value : Simple) → IsNamed path → alone (record { path = path; over = over; value = value } ∷ []) ≡ None
    by [] over value h = absurd h
    by (name ∷ path) over value h = refl
named-alone (leaf ∷ other ∷ ls) h = refl

named-append : (xs ys : List Leaf) → AreNamed xs → AreNamed ys → AreNamed (xs ++ ys)
unfolding AreNamed
named-append [] ys h k = k
named-append (x ∷ xs) ys h k = (h.0, named-append xs ys h.1 k)

named-behind : (name : Name) (ls : List Leaf) → AreNamed (map (behind name) ls)
unfolding IsNamed AreNamed
named-behind name [] = tt
named-behind name (leaf ∷ ls) = (tt, named-behind name ls)

named-words : (ls : List Leaf) (words : List Word) → AreNamed (flat_map (λ word. map (behind word.name) ls) words)
unfolding AreNamed
named-words ls [] = tt
named-words ls (word ∷ words) = named-append _ _ (named-behind word.name ls) (named-words ls words)

named-fields : (text : Text) (place : ℕ) (fields : List Field) → AreNamed (flat_map (field_leaves text place) fields)
unfolding AreNamed
named-fields text place [] = tt
named-fields text place (field ∷ fields) = named-append _ _ (named-words (leaves text place (out-Field field).of) (out-Field field).names) (named-fields text place fields)

-- nor is a struct
pub alone-fields : (text : Text) (place : ℕ) (fields : List Field) → alone (flat_map (field_leaves text place) fields) ≡ None
alone-fields text place fields = named-alone _ (named-fields text place fields)

pub ruleset lone = (alone-array, alone-fields)

-- ---- each type

under-of : (text : Text) (t : values.Simple) (s : Shape) → map (leaf_of text) (map (indexed t) s) ≡ map (under (flat_simple (numbering text) t)) (map (leaf_of text) s)
under-of text t [] = refl
under-of text t (f ∷ s) = ap (λ l. leaf_of text (indexed t f) ∷ l) (under-of text t s)

array-of : (text : Text) (o : Option values.Simple) (s : Shape) → map (leaf_of text) (array_of o s) ≡ array_leaves (option_map (flat_simple (numbering text)) o) (map (leaf_of text) s)
array-of text None s = refl
array-of text (Some t) s = under-of text t s

behind-of : (text : Text) (name : Name) (s : Shape) → map (leaf_of text) (map (shapes.behind (name ∷ [])) s) ≡ map (behind name) (map (leaf_of text) s)
behind-of text name [] = refl
behind-of text name (f ∷ s) = ap (λ l. leaf_of text (shapes.behind (name ∷ []) f) ∷ l) (behind-of text name s)

words-of : (text : Text) (s : Shape) (words : List Word)
    → map (leaf_of text) (flat_map (λ word. map (shapes.behind (word.name ∷ [])) s) words) ≡ flat_map (λ word. map (behind word.name) (map (leaf_of text) s)) words
words-of text s [] = refl
words-of text s (word ∷ words) =
    map-append (leaf_of text) (map (shapes.behind (word.name ∷ [])) s) _ ∙ ap (λ l. l ++ map (leaf_of text) (flat_map (λ word. map (shapes.behind (word.name ∷ [])) s) words)) (behind-of text word.name s)
    ∙ ap (λ l. map (behind word.name) (map (leaf_of text) s) ++ l) (words-of text s words)

module _ (text : Text) (place : ℕ) where
  pub leaves-Boolean : leaves text place Boolean ≡ one_leaf (FlatRange 0 1)
  unfolding leaves
  leaves-Boolean = refl

  pub leaves-Range : (span : Span) (at : ℕ) → leaves text place (Range span at) ≡ one_leaf (FlatRange span.low span.high)
  unfolding leaves
  leaves-Range span at = refl

  pub leaves-Enum : (names : List Word) (at : ℕ) → leaves text place (Enum names at) ≡ one_leaf (FlatEnum (position_or_len (same_path (names_of names)) (numbering text).enums))
  unfolding leaves
  leaves-Enum names at = refl

  pub leaves-Named : (word : Word) (at : ℕ) → leaves text place (Named word at) ≡ named_leaves text place word.name
  unfolding leaves named_leaves
  leaves-Named word at = refl

  pub leaves-Array : (index of : TypeExpr) → leaves text place (Array index of) ≡ array_leaves (alone (leaves text place index)) (leaves text place of)
  unfolding leaves computing
  leaves-Array index of =
      let types = take place (types_of text) in
      array-of text (simple_of (shape_of types index)) (shape_of types of) ∙ ap (λ o. array_leaves o (map (leaf_of text) (shape_of types of))) (sym (alone-of text (shape_of types index)))

  abbrev row_in : TypeExpr → (n : Count) × Row_of-Field n
  row_in (Struct' shape row) = (_, row)
  row_in _ = (_, end_of-Field)

  fields-row : (n : _) (row : Row_of-Field n) → map (leaf_of text) (shape_of_fields (take place (types_of text)) row) ≡ flat_map (field_leaves text place) (items-the_row-Field n row)
  unfolding leaves computing
  fields-row n end_of-Field = refl
  fields-row n (more_of-Field names of at rest) =
      let types = take place (types_of text) in
      map-append (leaf_of text) (flat_map (λ word. map (shapes.behind (word.name ∷ [])) (shape_of types of)) names) (shape_of_fields types rest)
      ∙ ap (λ l. l ++ map (leaf_of text) (shape_of_fields types rest)) (words-of text (shape_of types of) names)
      ∙ ap (λ l. flat_map (λ word. map (behind word.name) (map (leaf_of text) (shape_of types of))) names ++ l) (fields-row _ rest)

  pub leaves-Struct : (fields : List Field) → leaves text place (Struct fields) ≡ flat_map (field_leaves text place) fields
  unfolding leaves
  leaves-Struct fields = fields-row (row_in (Struct fields)).0 (row_in (Struct fields)).1 ∙ ap (λ l. flat_map (field_leaves text place) l) (items_hidden-the_row-Field-1 fields)

pub ruleset equations = (leaves-Boolean, leaves-Range, leaves-Enum, leaves-Named, leaves-Array, leaves-Struct, alone-array, alone-fields)
