-- The families of a text in numbers, each where it is declared.
use Rattle.std.specs.Prelude.{ℕ, List, [], ◌++◌, map, Bool}
use Rattle.smv_core.specs.Values.{Name, Path}
use Rattle.smv_core.specs.Types.{Family}
use Rattle.smv_core.specs.FlatOrder as order
use Rattle.smv_core.specs.declared.flat.Simple.{Simple}
use Rattle.smv_core.specs.declared.flat.Family.{Family as FlatFamily}
use Rattle.smv_core.specs.declared.tree.Text.{Text}
use Rattle.smv_core.specs.declared.tree.Item.{Item}
use Rattle.law_designs.specs.Numbers.{flat_simple}
use Rattle.law_designs.specs.Flattening.{dotted}
use Rattle.law_designs.specs.Entries.{placed_in, placed_of_item}
use Rattle.smv_flatten_families.specs.Paths.{path_of}
use Rattle.smv_flatten_families.specs.Simples.{numbering}
use Rattle.smv_flatten_families.specs.Types.{Leaf, types_of}
use Rattle.smv_flatten_families.specs.declared.families.Placed.{Placed}
use Rattle.smv_flatten_families.specs.declared.families.Stem.{Stem}
use Rattle.smv_flatten_families.specs.declared.numbers.Body.{Body}

-- a family in numbers: the names that lead to it, its types, whether it is abstract, and the place of the name that declares it
pub record InPlace : Type 0 where
  pub path : Path
  pub over : List Simple
  pub value : Simple
  pub is_abstract : Bool
  pub at : ℕ

-- a family, as it is held
abbrev pub in_place : Placed → InPlace
in_place p = record { path = path_of p.names.items; over = p.over.items; value = p.value; is_abstract = p.is_abstract; at = p.at }

-- a family of a text, in numbers
abbrev pub placed_family : Text → Family × ℕ → InPlace
placed_family text (f, at) = record { path = f.path; over = map (flat_simple (numbering text)) f.over; value = flat_simple (numbering text) f.value; is_abstract = f.is_abstract; at = at }

-- a family of a type, behind these names and under these indexes
abbrev pub placed_leaf : Path → List Simple → Bool → ℕ → Leaf → InPlace
placed_leaf path over is_abstract at leaf = record { path = path ++ leaf.path; over = over ++ leaf.over; value = leaf.value; is_abstract = is_abstract; at = at }

-- a family of a part of a signal
abbrev pub stem_leaf : Stem → Leaf → InPlace
stem_leaf stem = placed_leaf (path_of stem.names.now) stem.over.now stem.is_abstract stem.at

-- the family as it is written in the flattened text
abbrev pub written : InPlace → FlatFamily
written p = record { name = dotted p.path; over = p.over; value = p.value; is_abstract = p.is_abstract; at = p.at }

-- ---- modules

-- a module
abbrev pub body_now : Body → order.Body
body_now body = record { formals = body.formals.now; items = body.items.now }

-- a module by its name
abbrev pub body_beside : Name × Body → Name × order.Body
body_beside pair = (pair.0, body_now pair.1)

-- what stands for a module that there is not
abbrev pub no_body : order.Body
no_body = record { formals = []; items = [] }

-- ---- instances

-- the families of an instance of a module, in numbers
unfoldable pub instance_places : Text → ℕ → Path → Name → List InPlace
instance_places text left here name = map (placed_family text) (placed_in (types_of text) (order.modules text.tops) left here name)

-- those of an item
unfoldable pub item_places : Text → ℕ → Path → Item → List InPlace
item_places text left here item = map (placed_family text) (placed_of_item (types_of text) (order.modules text.tops) (placed_in (types_of text) (order.modules text.tops) left) here item)
