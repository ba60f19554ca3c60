-- The lists of constants that are told by their first constant.
use Rattle.std.specs.Prelude.{◌≡◌, List, [], ◌∷◌, Option, Some, None, IfSome, option_map}
use Rattle.std.specs.List.{AllByRecursion}
use Rattle.smv_core.specs.Values.{Name}
use Rattle.smv_core.specs.Types.{find_name}
use Rattle.smv_core.specs.declared.tree.Text.{Text}
use Rattle.smv_core.specs.declared.tree.Part.{Part}
use Rattle.smv_mentions.specs.Scopes.{Constant, pieces, constants}
use Rattle.smv_mentions.specs.FirstFault.{first_fault}
use Rattle.law_designs.specs.Kinds.{Kind, enumeration}
use Rattle.law_designs.specs.Types.{Whole}
use Rattle.law_designs.specs.References.{Module, modules_from, signal_at}

-- the list of constants to which the first of these names belongs
abbrev pub owner : List (Name × Constant) → List Name → Option (List Name)
owner constants [] = None
owner constants (name ∷ names) = option_map (λ constant. constant.names) (find_name constants name)

-- a kind that is no enumeration, or the enumeration to which its first constant belongs
abbrev pub IsOwned : List (Name × Constant) → Kind → Type 0
IsOwned constants (enumeration names) = IfSome (owner constants names) (λ list. list ≡ names)
IsOwned constants _ = Unit {0}

-- the single values to which the names of a module lead are of such kinds
unfoldable pub LeadsOwned : Text → Module → Type 0
LeadsOwned text m =
    (parts : List Part) (whole : Whole) → signal_at (record { modules = modules_from [] text.tops; constants = constants (pieces text); here = m }) parts ≡ Some whole → IsOwned (constants (pieces text)) whole.value

-- in a text without faults of names each signal of an enumeration has the list to which the first constant of the enumeration belongs
abbrev pub SignalsAreOwned : Type 0
SignalsAreOwned = (text : Text) → first_fault text ≡ None → AllByRecursion (λ (name, m). LeadsOwned text m) (modules_from [] text.tops)
