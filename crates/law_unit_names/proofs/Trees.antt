-- Trees whose names are words: those that declare, of types and fields, of instances, layers and claims.
use Rattle.std.proofs.Common.{◌≡◌, ℕ, List, true, sym, subst}
use Rattle.std.specs.List.{AllByRecursion}
use Rattle.smv_core.specs.Values.{Name, Path}
use Rattle.smv_core.specs.declared.tree.Word.{Word}
use Rattle.smv_core.specs.declared.tree.Field.{Field as TreeField, roll-Field, out-Field}
use Rattle.smv_core.specs.declared.tree.TypeExpr.{TypeExpr, Array, Struct, Array', Struct', end_of-TypeExpr, more_of-TypeExpr, Row_of-Field, end_of-Field, more_of-Field, items-the_row-Field, items_hidden-the_row-Field-1}
use Rattle.smv_core.specs.declared.tree.Item as item
use Rattle.smv_core.specs.declared.tree.Item.{Item, Declare, Instance, Layer, Claim, Split, Using, Act, Row_of-Item, end_of-Item, more_of-Item, items-the_row-Item, items_hidden-the_row-Item-1}
use Rattle.smv_core.specs.declared.tree.Top.{Top}
use Rattle.smv_core.specs.declared.tree.Top.TheVariants.{SetType, Alias, Module}
use Rattle.smv_core.specs.declared.tree.Text.{Text}
use mathlib.Core.Former.{Count}
use Rattle.smv_lex.specs.Longest.{is_word}
use Rattle.smv_mentions.proofs.Computing.{computing}

-- a name that is a word, and names that are
abbrev pub IsNamed : Name → Type 0
IsNamed name = is_word name ≡ true

abbrev pub AreNamed : Path → Type 0
AreNamed path = AllByRecursion IsNamed path

abbrev pub AreWords : List Word → Type 0
AreWords words = AllByRecursion (λ (word : Word). IsNamed word.name) words

-- ---- types

abbrev mutual
  pub TypeIsNamed : TypeExpr → Type 0
  TypeIsNamed (Array' i (more_of-TypeExpr index end_of-TypeExpr) o (more_of-TypeExpr of end_of-TypeExpr)) = TypeIsNamed of
  TypeIsNamed (Struct' shape fields) = FieldsAreNamed fields
  TypeIsNamed _ = Unit {0}

  pub FieldsAreNamed : {m : _} → Row_of-Field m → Type 0
  FieldsAreNamed end_of-Field = Unit {0}
  FieldsAreNamed (more_of-Field names of at rest) = (AreWords names × TypeIsNamed of) × FieldsAreNamed rest

abbrev pub FieldIsNamed : TreeField → Type 0
FieldIsNamed x = AreWords (out-Field x).names × TypeIsNamed (out-Field x).of

fields-row : (n : _) (row : Row_of-Field n) → AllByRecursion FieldIsNamed (items-the_row-Field n row) → FieldsAreNamed row
unfolding computing
fields-row n end_of-Field h = tt
fields-row n (more_of-Field names of at rest) h = (h.0, fields-row _ rest h.1)

abbrev fields_in : TypeExpr → (n : Count) × Row_of-Field n
fields_in (Struct' shape row) = (_, row)
fields_in _ = (_, end_of-Field)

pub named-Struct : (fields : List TreeField) → AllByRecursion FieldIsNamed fields → TypeIsNamed (Struct fields)
named-Struct fields h = fields-row (fields_in (Struct fields)).0 (fields_in (Struct fields)).1 (subst (AllByRecursion FieldIsNamed) (sym (items_hidden-the_row-Field-1 fields)) h)

pub named-Array : (index of : TypeExpr) → TypeIsNamed of → TypeIsNamed (Array index of)
unfolding computing
named-Array index of h = h

pub named-field : (names : List Word) (of : TypeExpr) (at : ℕ) → AreWords names → TypeIsNamed of → FieldIsNamed (roll-Field (record { names = names; of = of; at = at }))
unfolding computing
named-field names of at h k = (h, k)

-- ---- items

abbrev mutual
  pub ItemIsNamed : Item → Type 0
  ItemIsNamed (Declare role words of at) = AreWords words × TypeIsNamed of
  ItemIsNamed (Instance words name args at) = AreWords words
  ItemIsNamed (Layer word body at) = IsNamed word.name
  ItemIsNamed (item.Forall' var over shape (more_of-Item body end_of-Item) at) = ItemIsNamed body
  ItemIsNamed (item.Block' shape items) = ItemsAreNamed items
  ItemIsNamed (Claim word vars body at) = IsNamed word.name
  ItemIsNamed (Split word vars of pairs at) = Unit {0}
  ItemIsNamed (Using uses proves at) = Unit {0}
  ItemIsNamed (Act act) = Unit {0}

  pub ItemsAreNamed : {m : _} → Row_of-Item m → Type 0
  ItemsAreNamed end_of-Item = Unit {0}
  ItemsAreNamed (more_of-Item part rest) = ItemIsNamed part × ItemsAreNamed rest

items-row : (n : _) (row : Row_of-Item n) → AllByRecursion ItemIsNamed (items-the_row-Item n row) → ItemsAreNamed row
items-row n end_of-Item h = tt
items-row n (more_of-Item part rest) h = (h.0, items-row _ rest h.1)

abbrev items_in : Item → (n : Count) × Row_of-Item n
items_in (item.Block' shape row) = (_, row)
items_in _ = (_, end_of-Item)

pub named-Block : (items : List Item) → AllByRecursion ItemIsNamed items → ItemIsNamed (item.Block items)
named-Block items h = items-row (items_in (item.Block items)).0 (items_in (item.Block items)).1 (subst (AllByRecursion ItemIsNamed) (sym (items_hidden-the_row-Item-1 items)) h)

pub named-Forall : (var : Word) (over : TypeExpr) (body : Item) (at : ℕ) → ItemIsNamed body → ItemIsNamed (item.Forall var over body at)
unfolding computing
named-Forall var over body at h = h

-- ---- the text

abbrev pub TopIsNamed : Top → Type 0
TopIsNamed (SetType word ordered span at) = Unit {0}
TopIsNamed (Alias word of at) = TypeIsNamed of
TopIsNamed (Module word formals body at) = AllByRecursion ItemIsNamed body

abbrev pub TextIsNamed : Text → Type 0
TextIsNamed text = AllByRecursion TopIsNamed text.tops
