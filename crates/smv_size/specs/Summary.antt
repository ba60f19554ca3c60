-- What is told of families, types and modules: each number up to one more than its limit.
use Rattle.std.specs.Prelude.{◌≡◌, ℕ, min, max, List, [], ◌∷◌, map, length, sum, flat_map, Option, false, option_and_then, slice_get, unwrap_or}
use Rattle.std.specs.List.{list_any}
use Rattle.name_index.specs.Position.{position}
use Rattle.smv_core.specs.Values.{Name}
use Rattle.smv_core.specs.FlatOrder.{Body}
use Rattle.smv_mentions.specs.Sizes.{Extent, Sized, Thing, is_too_wide, body_named, things_of_item, things_in, statements_of_item, statements_in}
use Rattle.smv_size.specs.Limits.{capped}
use Rattle.smv_size.specs.declared.types.Families.{Families}
use Rattle.smv_size.specs.declared.types.TypeSize.{TypeSize}
use Rattle.smv_size.specs.declared.modules.Things.{Things}
use Rattle.smv_size.specs.declared.modules.ModuleSize.{ModuleSize}
use Rattle.smv_size.specs.declared.modules.ModuleText.{ModuleText}

-- the greatest of some numbers, and 0 where there is none
abbrev pub greatest : List ℕ → ℕ
greatest [] = 0
greatest (n ∷ more) = max n (greatest more)

-- ---- types

-- how many families, and the most index types and the greatest product of one of them
abbrev pub families_told : List Extent → Families
families_told families = record {
  count = min 4097 (length families);
  indexes = min 5 (greatest (map (λ (e : Extent). e.indexes) families));
  product = min 257 (greatest (map (λ (e : Extent). e.product) families));
}

abbrev pub type_told : Sized → TypeSize
type_told sized = record { families = families_told sized.families; size = sized.size }

-- the size of an index type, and 1 where it is no range
abbrev pub size_or_one : Option ℕ → ℕ
size_or_one size = unwrap_or size 1

-- the types that are known, by what is told of them
abbrev pub types_told : List (Name × Sized) → List (Name × TypeSize)
types_told known = map (λ (name, sized). (name, type_told sized)) known

-- ---- modules

-- how many families and instances, and whether one of them is too wide
abbrev pub things_told : List Thing → Things
things_told things = record { count = min 4097 (length things); wide = list_any is_too_wide things }

-- the names of the modules
abbrev pub module_names : List (Name × Body) → List Name
module_names bodies = map (λ (top : Name × Body). top.0) bodies

-- the bodies of the modules
abbrev pub module_bodies : List (Name × Body) → List Body
module_bodies bodies = map (λ (top : Name × Body). top.1) bodies

-- a module that is held by reference
abbrev pub body_of : ModuleText → Body
body_of text = record { formals = text.formals.now; items = text.items.now }

-- what is told of a module that is not declared
abbrev pub no_module : ModuleSize
no_module = record { formals = 0; things = record { count = 0; wide = false }; statements = 0 }

-- what is told of a module, where nothing in it counts
abbrev pub empty_told : Body → ModuleSize
empty_told body = record { formals = capped (length body.formals); things = record { count = 0; wide = false }; statements = 0 }

-- what is told of the module of this name
abbrev pub size_named : List Name → List ModuleSize → Name → ModuleSize
size_named names sizes name = unwrap_or (option_and_then (λ i. slice_get sizes i) (position names name)) no_module

module _ (known : List (Name × Sized)) (bodies : List (Name × Body)) where
  -- what is told of the module of this name, where these things and so many statements are met in it
  abbrev pub told_of : List Thing → ℕ → Name → ModuleSize
  told_of things statements name = record {
    formals = capped (length (body_named known bodies name).formals);
    things = things_told things;
    statements = capped statements;
  }

  -- what is told of a body, where these are met in the modules of its instances
  abbrev pub body_told : (Name → List Thing) → (Name → ℕ) → Body → ModuleSize
  body_told things statements body = record {
    formals = capped (length body.formals);
    things = things_told (flat_map (things_of_item known bodies things) body.items);
    statements = capped (sum (map (statements_of_item known bodies statements) body.items));
  }

  -- what is told of every module, where these are met in it
  abbrev pub AreToldOf : (Name → List Thing) → (Name → ℕ) → List Name → List ModuleSize → Type 0
  AreToldOf things statements names sizes = (name : Name) → size_named names sizes name ≡ told_of (things name) (statements name) name

  -- what is told of a module of this name, where no chain of instances is longer than this number
  abbrev pub module_told : ℕ → Name → ModuleSize
  module_told n name = told_of (things_in known bodies n name) (statements_in known bodies n name) name

  -- the same of every module
  abbrev pub AreTold : List Name → List ModuleSize → ℕ → Type 0
  AreTold names sizes n = AreToldOf (things_in known bodies n) (statements_in known bodies n) names sizes
