-- Where an assignment that clashes with another one meets it: the other place of the faults 15 and 16.
use Rattle.std.specs.Prelude.{ℕ, List, [], ◌∷◌, ◌++◌, flat_map, Option, Bool, if◌then◌else◌, nat_eq}
use Rattle.smv_core.specs.Rows.{one_flat_stmt}
use Rattle.smv_core.specs.declared.tree.Text.{Text}
use Rattle.smv_core.specs.declared.flat.FlatText.{FlatText}
use Rattle.smv_core.specs.declared.flat.FlatItem.{FlatItem}
use Rattle.smv_core.specs.declared.flat.FlatItem.TheVariants as item
use Rattle.smv_core.specs.declared.flat.FlatStmt.{FlatStmt, Assign, If', Block', Default', Forall', Row_of-FlatStmt, end_of-FlatStmt, more_of-FlatStmt}
use Rattle.smv_mentions.specs.NameFaults.{place_if}
use Rattle.smv_first_fault.specs.Firsts.{least}
use Rattle.law_designs.specs.Flattening.{flatten}
use Rattle.law_designs.specs.Standing.{Standing, standing}
use Rattle.law_designs.specs.SingleFaults.{assigned_in, are_mixed, cross, meet}
use Rattle.smv_single_assignment.specs.Held.{assigned_of}

module _ (at : ℕ) where
  -- the places of those of the first list that clash with one of the second list at the place
  abbrev pub clashing : (Standing → Standing → Bool) → List Standing → List Standing → List ℕ
  clashing clash earlier later = flat_map (λ (b : Standing). if nat_eq b.at at then flat_map (λ (a : Standing). place_if (clash a b) a.at) earlier else []) later

  -- ---- fault 15

  module _ (layer : Option ℕ) where
    abbrev mutual
      -- the places of the earlier ones of two conflicting assignments of a statement of a layer, inside these `forall` variables, where the later one stands at the place
      pub met : List ℕ → FlatStmt → List ℕ
      met around (Assign kind family left value here) = []
      met around (If' cond l (one_flat_stmt left) r (one_flat_stmt right)) = met around left ++ met around right ++ clashing (cross around) (standing layer around left) (standing layer around right)
      met around (Block' shape parts) = met_in around [] parts
      met around (Default' l (one_flat_stmt left) r (one_flat_stmt right)) = met around left ++ met around right ++ clashing (cross around) (standing layer around left) (standing layer around right)
      met around (Forall' var over shape (one_flat_stmt body)) = met (var ∷ around) body

      -- the same in the parts of a block, behind these assignments
      pub met_in : {m : _} → List ℕ → List Standing → Row_of-FlatStmt m → List ℕ
      met_in around before end_of-FlatStmt = []
      met_in around before (more_of-FlatStmt part rest) = (met around part ++ clashing meet before (standing layer around part)) ++ met_in around (before ++ standing layer around part) rest

  -- the same in an item of a flattened text, behind these assignments, and in its items
  abbrev pub item_met : List Standing → FlatItem → List ℕ
  item_met before (item.Act layer act) = met layer [] act ++ clashing meet before (standing layer [] act)
  item_met before _ = []

  abbrev pub met_by : List Standing → List FlatItem → List ℕ
  met_by before [] = []
  met_by before (x ∷ items) = item_met before x ++ met_by (before ++ assigned_of x) items

  abbrev pub conflicting_with : FlatText → List ℕ
  conflicting_with flat_text = met_by [] flat_text.items

  -- ---- fault 16

  -- the places of a `:=`, or of an `init` or `next`, that stands beside one of the other sort at the place
  abbrev pub mixed_with : FlatText → List ℕ
  mixed_with flat_text = clashing are_mixed (assigned_in flat_text) (assigned_in flat_text)

-- where the first assignment stands that an assignment at a place of a text conflicts with
abbrev pub conflicts_first : Text → ℕ → Option ℕ
conflicts_first text at = least (conflicting_with at (flatten text))

-- where the first assignment stands beside which there is one of the other sort at a place of a text
abbrev pub mixed_first : Text → ℕ → Option ℕ
mixed_first text at = least (mixed_with at (flatten text))
