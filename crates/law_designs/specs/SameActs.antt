-- When a statement of the flattened text is that of the text, as far as layers and the families that it assigns go.
use Rattle.std.specs.Prelude.{◌≡◌, ℕ, List, [], ◌∷◌, Option, Some, option_map, nat_eq}
use Rattle.std.specs.List.{list_any}
use Rattle.smv_core.specs.Types.{Family}
use Rattle.smv_core.specs.FlatOrder.{Said, design_of}
use Rattle.smv_core.specs.Outcome.{family_at}
use Rattle.smv_core.specs.Values.{Path}
use Rattle.smv_core.specs.Allowed.{is_defined_by}
use Rattle.smv_core.specs.declared.tree.Text.{Text}
use Rattle.smv_core.specs.declared.flat.FlatStmt.{FlatStmt}
use Rattle.smv_core.specs.declared.flat.FlatItem.{FlatItem}
use Rattle.smv_core.specs.declared.flat.FlatItem.TheVariants as item
use Rattle.law_designs.specs.Numbers.{family_number}
use Rattle.law_designs.specs.Flattening.{FlatAssigned, flat_assignments, scope_in, flatten, layer_number}

-- the statements in flat order, each with the number of its layer, or with none outside layers
abbrev pub layered_acts : List FlatItem → List (Option ℕ × FlatStmt)
layered_acts [] = []
layered_acts (item.Act number act ∷ items) = (number, act) ∷ layered_acts items
layered_acts (_ ∷ items) = layered_acts items

-- it stands in the statement's layer, and assigns the families that the statement assigns
abbrev pub IsSameAct : Text → Option ℕ × FlatStmt → Said → Type 0
IsSameAct text (number, act) x =
    (number ≡ option_map (layer_number (flatten text).layers) x.layer)
    × ((path : Path) (f : Family) → family_at (design_of text).families path ≡ Some f → list_any (λ (a : FlatAssigned). nat_eq a.family (family_number (scope_in text []) path)) (flat_assignments act) ≡ is_defined_by path x)
