-- The size of a text that has no fault of names, and its limits.
use Rattle.std.specs.Prelude.{ℕ, zero, suc, ◌+◌, ◌-◌, ◌*◌, List, [], ◌∷◌, ◌++◌, map, flat_map, length, sum, Option, Some, None, Bool, false, ◌||◌, if◌then◌else◌, nat_lt, unwrap_or}
use Rattle.std.specs.Str.{bytes_eq}
use Rattle.std.specs.List.{list_any}
use Rattle.smv_core.specs.Values.{Name}
use Rattle.smv_core.specs.Types.{find_name}
use Rattle.smv_core.specs.FlatOrder.{Body, modules, main}
use Rattle.smv_core.specs.Walk.{steps_of}
use Rattle.smv_core.specs.declared.tree.Text.{Text}
use Rattle.smv_core.specs.declared.tree.Top.{Top}
use Rattle.smv_core.specs.declared.tree.Top.TheVariants.{SetType, Alias, Module}
use Rattle.smv_core.specs.declared.tree.TypeExpr.{TypeExpr, Boolean, Range, Named, Array', Struct', Row_of-Field, end_of-Field, more_of-Field}
use Rattle.smv_core.specs.declared.tree.Stmt.{Stmt, Assign, Block', If', Switch', Default', For', Forall', None', Some', Row_of-Stmt, end_of-Stmt, more_of-Stmt, Row_of-Arm, end_of-Arm, more_of-Arm}
use Rattle.smv_core.specs.declared.tree.Item.{Item, Declare, Instance, Layer, Claim, Split, Using, Act, Row_of-Item, end_of-Item, more_of-Item}
use Rattle.smv_core.specs.declared.tree.Item as item
use Rattle.smv_mentions.specs.Scopes.{pieces, constants}
use Rattle.smv_core.specs.Rows.{one_stmt, one_type, Otherwise}

-- ---- families

-- a family, by how many index types it has and the product of the sizes of those that are ranges
pub record Extent : Type 0 where
  pub indexes : ℕ
  pub product : ℕ

-- under one more index; only a range has a size here
abbrev pub under : Option ℕ → Extent → Extent
under None e = record { indexes = e.indexes + 1; product = e.product }
under (Some size) e = record { indexes = e.indexes + 1; product = size * e.product }

-- what a type name stands for: its families, and its size where it is a range
pub record Sized : Type 0 where
  pub families : List Extent
  pub size : Option ℕ

abbrev pub one_value : List Extent
one_value = record { indexes = 0; product = 1 } ∷ []

-- a type that is not declared has no family
abbrev pub sized : List (Name × Sized) → Name → Sized
sized known name = unwrap_or (find_name known name) (record { families = []; size = None })

module _ (known : List (Name × Sized)) where
  -- how many numbers a range has, and none where the first is above the last
  abbrev pub size_of : TypeExpr → Option ℕ
  size_of Boolean = Some 2
  size_of (Range span at) = Some (span.high + 1 - span.low)
  size_of (Named word at) = (sized known word.name).size
  size_of _ = None

  abbrev mutual
    -- the families that a signal of a type has
    pub extents_of : TypeExpr → List Extent
    extents_of (Named word at) = (sized known word.name).families
    extents_of (Array' i (one_type index) o (one_type of)) = map (under (size_of index)) (extents_of of)
    extents_of (Struct' shape fields) = extents_of_fields fields
    extents_of _ = one_value

    pub extents_of_fields : {m : _} → Row_of-Field m → List Extent
    extents_of_fields end_of-Field = []
    extents_of_fields (more_of-Field names of at rest) = flat_map (λ word. extents_of of) names ++ extents_of_fields rest

  abbrev pub sized_after : Top → List (Name × Sized)
  sized_after (SetType word ordered span at) = known ++ (word.name, record { families = one_value; size = None }) ∷ []
  sized_after (Alias word of at) = known ++ (word.name, record { families = extents_of of; size = size_of of }) ∷ []
  sized_after (Module word formals body at) = known

-- each type name is read with those before it
abbrev pub sized_from : List (Name × Sized) → List Top → List (Name × Sized)
sized_from known [] = known
sized_from known (top ∷ tops) = sized_from (sized_after known top) tops

-- ---- statements

abbrev mutual
  -- how many statements are met in a statement, itself included; a `for` once, and its body once for each of its turns
  pub statements : Stmt → ℕ
  statements (Assign kind left value at) = 1
  statements (Block' shape parts) = 1 + statements_in_row parts
  statements (If' cond l (one_stmt left) right at) = 1 + statements left + statements_in_branch right
  statements (Switch' on shape arms other at) = 1 + statements_in_arms arms + statements_in_branch other
  statements (Default' l (one_stmt left) r (one_stmt right) at) = 1 + statements left + statements right
  statements (For' var from to closed step shape (one_stmt body) at) = 1 + length (steps_of from to closed step) * statements body
  statements (Forall' var over shape (one_stmt body) at) = 1 + statements body

  pub statements_in_row : {m : _} → Row_of-Stmt m → ℕ
  statements_in_row end_of-Stmt = 0
  statements_in_row (more_of-Stmt part rest) = statements part + statements_in_row rest

  pub statements_in_branch : Otherwise → ℕ
  statements_in_branch None' = 0
  statements_in_branch (Some' shape (one_stmt part)) = statements part

  pub statements_in_arms : {m : _} → Row_of-Arm m → ℕ
  statements_in_arms end_of-Arm = 0
  statements_in_arms (more_of-Arm labels body rest) = statements body + statements_in_arms rest

-- ---- what is met from `main` on

-- a family or an instance
pub data Thing : Type 0 where
  family : Extent → Thing
  instance : Thing

module _ (known : List (Name × Sized)) (bodies : List (Name × Body)) where
  -- the module of this name
  abbrev pub body_named : Name → Body
  body_named name = unwrap_or (find_name bodies name) (record { formals = []; items = [] })

  -- the families and instances of an item, where those of a module are given
  abbrev pub things_of_item : (Name → List Thing) → Item → List Thing
  things_of_item inside (Declare role words of at) = flat_map (λ word. map family (extents_of known of)) words
  things_of_item inside (Instance words name args at) = flat_map (λ word. instance ∷ inside name.name) words
  things_of_item inside _ = []

  -- the families and instances in a module; no chain of instances is longer than this number
  abbrev pub things_in : ℕ → Name → List Thing
  things_in zero name = []
  things_in (suc n) name = flat_map (things_of_item (things_in n)) (body_named name).items

  module _ (inside : Name → ℕ) where
    abbrev mutual
      -- The statements that are met in an item, where those of a module are given: each formal of an instance is a connection, the braces of a layer
      -- are no block.
      pub statements_of_item : Item → ℕ
      statements_of_item (Declare role words of at) = 0
      statements_of_item (Instance words name args at) = length words * (length (body_named name.name).formals + inside name.name)
      statements_of_item (Layer word body at) = 1 + sum (map statements body)
      statements_of_item (item.Forall' var over shape (more_of-Item body end_of-Item) at) = 1 + statements_of_item body
      statements_of_item (item.Block' shape items) = 1 + statements_of_items items
      statements_of_item (Claim word brackets body at) = 1
      statements_of_item (Split word brackets of pairs at) = 1
      statements_of_item (Using uses proves at) = 1
      statements_of_item (Act act) = statements act

      pub statements_of_items : {m : _} → Row_of-Item m → ℕ
      statements_of_items end_of-Item = 0
      statements_of_items (more_of-Item part rest) = statements_of_item part + statements_of_items rest

  -- the statements that are met in a module; no chain of instances is longer than this number
  abbrev pub statements_in : ℕ → Name → ℕ
  statements_in zero name = 0
  statements_in (suc n) name = sum (map (statements_of_item (statements_in n)) (body_named name).items)

-- ---- limits

-- more than 4 index types, or more than 256 values of its range indexes together
abbrev pub is_too_wide : Thing → Bool
is_too_wide (family e) = nat_lt 4 e.indexes || nat_lt 256 e.product
is_too_wide instance = false

-- how many names are different, beside those seen so far
abbrev pub count_different : List Name → List Name → ℕ
count_different seen [] = 0
count_different seen (name ∷ more) = if list_any (bytes_eq name) seen then count_different seen more else 1 + count_different (name ∷ seen) more

abbrev pub constant_names : Text → List Name
constant_names text = map (λ (name, constant). name) (constants (pieces text))

-- Above a limit: 4,096 families and instances together, 4 index types of a family, 256 values of a family's range indexes together, 4,096 constants of
-- all enumerations, 65,536 statements in flat order.
abbrev pub is_too_large : Text → Bool
is_too_large text =
    let known = sized_from [] text.tops in
    let bodies = modules text.tops in
    let things = things_in known bodies (length bodies) main in
    nat_lt 4096 (length things) || list_any is_too_wide things || nat_lt 4096 (count_different [] (constant_names text)) || nat_lt 65536 (statements_in known bodies (length bodies) main)
