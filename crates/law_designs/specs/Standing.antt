-- The statements of a flattened text in flat order, and the assignments in them as the rules of single assignment see them.
use Rattle.std.specs.Prelude.{ℕ, ◌+◌, List, [], ◌∷◌, ◌++◌, length, Option}
use Rattle.smv_core.specs.declared.tree.Kind.{Kind}
use Rattle.smv_core.specs.declared.flat.FlatText.{FlatText}
use Rattle.smv_core.specs.declared.flat.FlatItem.{FlatItem}
use Rattle.smv_core.specs.declared.flat.FlatItem.TheVariants as item
use Rattle.smv_core.specs.declared.flat.FlatExpr.{FlatExpr}
use Rattle.smv_core.specs.declared.flat.FlatStmt.{FlatStmt, Assign, If', Block', Default', Forall', Row_of-FlatStmt, end_of-FlatStmt, more_of-FlatStmt}
use Rattle.law_designs.specs.Flattening.{flat_assignments}
use Rattle.smv_core.specs.Rows.{one_flat_stmt}

-- ---- statements

-- how many assignments stand in a statement
abbrev pub count : FlatStmt → ℕ
count act = length (flat_assignments act)

-- a statement of the layer of this number, or outside layers where there is none, with the place of its first assignment in flat order
pub record Statement : Type 0 where
  pub layer : Option ℕ
  pub place : ℕ
  pub act : FlatStmt

-- the statements in flat order, where so many assignments, connections and claims are met before
abbrev pub statements_from : ℕ → List FlatItem → List Statement
statements_from k [] = []
statements_from k (item.Act layer act ∷ items) = record { layer = layer; place = k; act = act } ∷ statements_from (k + count act) items
statements_from k (item.Claim c ∷ items) = statements_from (k + 1) items
statements_from k (_ ∷ items) = statements_from k items

abbrev pub statements_of : FlatText → List Statement
statements_of flat_text = statements_from 0 flat_text.items

-- ---- assignments

-- an assignment by its layer, its kind, its family, its left side's indexes, the `forall` variables around it by their numbers, and its offset
pub record Standing : Type 0 where
  pub layer : Option ℕ
  pub kind : Kind
  pub family : ℕ
  pub left : List FlatExpr
  pub around : List ℕ
  pub at : ℕ

module _ (layer : Option ℕ) where
  abbrev mutual
    -- the assignments of a statement of a layer in flat order, inside these `forall` variables
    pub standing : List ℕ → FlatStmt → List Standing
    standing around (Assign kind family left value at) = record { layer = layer; kind = kind; family = family; left = left; around = around; at = at } ∷ []
    standing around (If' cond l (one_flat_stmt left) r (one_flat_stmt right)) = standing around left ++ standing around right
    standing around (Block' shape parts) = standing_in around parts
    standing around (Default' l (one_flat_stmt left) r (one_flat_stmt right)) = standing around left ++ standing around right
    standing around (Forall' var over shape (one_flat_stmt body)) = standing (var ∷ around) body

    pub standing_in : {m : _} → List ℕ → Row_of-FlatStmt m → List Standing
    standing_in around end_of-FlatStmt = []
    standing_in around (more_of-FlatStmt part rest) = standing around part ++ standing_in around rest

-- the assignments of a statement of the text
abbrev pub assigned_by : Statement → List Standing
assigned_by s = standing s.layer [] s.act
