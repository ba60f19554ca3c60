-- The assignments and the conflicts of statements that are made of lists.
use Rattle.std.proofs.Common.{◌≡◌, ℕ, ◌+◌, List, [], ◌∷◌, ◌++◌, refl, ap, sym, ◌∙◌}
use Rattle.std.specs.Prelude.{Option}
use Rattle.std.specs.List.{flat_map}
use Rattle.std.proofs.lemmas.List.{append-nil}
use Rattle.smv_core.specs.declared.tree.Kind.{Kind}
use Rattle.smv_core.specs.declared.flat.Simple.{Simple}
use Rattle.smv_core.specs.declared.flat.FlatExpr.{FlatExpr}
use Rattle.smv_core.specs.declared.flat.FlatStmt.{FlatStmt, Assign, If, Default, Forall, Block, Block', Row_of-FlatStmt, end_of-FlatStmt, more_of-FlatStmt, items-the_row-FlatStmt, items_hidden-the_row-FlatStmt-1}
use Rattle.smv_core.specs.declared.flat.FlatItem.{FlatItem}
use Rattle.smv_core.specs.declared.flat.FlatItem.TheVariants as item
use mathlib.Core.Former.{Count}
use Rattle.law_designs.specs.Standing.{count, standing, standing_in, statements_from, assigned_by}
use Rattle.law_designs.specs.SingleFaults.{conflicts, conflicts_in, conflicting, later_places, cross, meet}
use Rattle.smv_single_assignment.specs.Held.{among, assigned_of, conflicts_of}
use Rattle.smv_single_assignment.proofs.Computing.{computing}

abbrev stmts_of : FlatStmt → (k : Count) × Row_of-FlatStmt k
stmts_of (Block' shape row) = (_, row)
stmts_of _ = (_, end_of-FlatStmt)

module _ (layer : Option ℕ) (around : List ℕ) where
  standing-row : (k : _) (row : Row_of-FlatStmt k) → standing_in layer around row ≡ flat_map (standing layer around) (items-the_row-FlatStmt k row)
  standing-row k end_of-FlatStmt = refl
  standing-row k (more_of-FlatStmt part rest) = ap (λ l. standing layer around part ++ l) (standing-row _ rest)

  conflicts-row : (k : _) (row : Row_of-FlatStmt k) → conflicts_in layer around row ≡ among meet (conflicts layer around) (standing layer around) (items-the_row-FlatStmt k row)
  conflicts-row k end_of-FlatStmt = refl
  conflicts-row k (more_of-FlatStmt part rest) =
      ap (λ l. conflicts layer around part ++ l ++ later_places meet (standing layer around part) (standing_in layer around rest)) (conflicts-row _ rest)
      ∙ ap (λ l. conflicts layer around part ++ among meet (conflicts layer around) (standing layer around) (items-the_row-FlatStmt _ rest) ++ later_places meet (standing layer around part) l) (standing-row _ rest)

  pub standing-Assign : (kind : Kind) (family : ℕ) (left : List FlatExpr) (value : FlatExpr) (at : ℕ) → standing layer around (Assign kind family left value at) ≡ record { layer = layer; kind = kind; family = family; left = left; around = around; at = at } ∷ []
  standing-Assign kind family left value at = refl

  pub standing-If : (cond : FlatExpr) (l r : FlatStmt) → standing layer around (If cond l r) ≡ standing layer around l ++ standing layer around r
  unfolding computing
  standing-If cond l r = refl

  pub standing-Default : (l r : FlatStmt) → standing layer around (Default l r) ≡ standing layer around l ++ standing layer around r
  unfolding computing
  standing-Default l r = refl

  pub standing-Block : (parts : List FlatStmt) → standing layer around (Block parts) ≡ flat_map (standing layer around) parts
  standing-Block parts =
      let row : (k : Count) × Row_of-FlatStmt k = stmts_of (Block parts) in
      standing-row row.0 row.1 ∙ ap (flat_map (standing layer around)) (items_hidden-the_row-FlatStmt-1 parts)

  pub standing-Forall : (var : ℕ) (over : Simple) (body : FlatStmt) → standing layer around (Forall var over body) ≡ standing layer (var ∷ around) body
  unfolding computing
  standing-Forall var over body = refl

  pub conflicts-Assign : (kind : Kind) (family : ℕ) (left : List FlatExpr) (value : FlatExpr) (at : ℕ) → conflicts layer around (Assign kind family left value at) ≡ []
  conflicts-Assign kind family left value at = refl

  pub conflicts-If : (cond : FlatExpr) (l r : FlatStmt) → conflicts layer around (If cond l r) ≡ conflicts layer around l ++ conflicts layer around r ++ later_places (cross around) (standing layer around l) (standing layer around r)
  unfolding computing
  conflicts-If cond l r = refl

  pub conflicts-Default : (l r : FlatStmt) → conflicts layer around (Default l r) ≡ conflicts layer around l ++ conflicts layer around r ++ later_places (cross around) (standing layer around l) (standing layer around r)
  unfolding computing
  conflicts-Default l r = refl

  pub conflicts-Block : (parts : List FlatStmt) → conflicts layer around (Block parts) ≡ among meet (conflicts layer around) (standing layer around) parts
  conflicts-Block parts =
      let row : (k : Count) × Row_of-FlatStmt k = stmts_of (Block parts) in
      conflicts-row row.0 row.1 ∙ ap (among meet (conflicts layer around) (standing layer around)) (items_hidden-the_row-FlatStmt-1 parts)

  pub conflicts-Forall : (var : ℕ) (over : Simple) (body : FlatStmt) → conflicts layer around (Forall var over body) ≡ conflicts layer (var ∷ around) body
  unfolding computing
  conflicts-Forall var over body = refl

pub ruleset equations = (standing-Assign, standing-If, standing-Default, standing-Block, standing-Forall)

pub ruleset conflict_equations = (conflicts-Assign, conflicts-If, conflicts-Default, conflicts-Block, conflicts-Forall)

-- the assignments of the items are those of their statements
pub items-assigned : (k : ℕ) (items : List FlatItem) → flat_map assigned_by (statements_from k items) ≡ flat_map assigned_of items
items-assigned k [] = refl
items-assigned k (item.Act layer act ∷ items) = ap (λ l. standing layer [] act ++ l) (items-assigned (k + count act) items)
items-assigned k (item.Claim c ∷ items) = items-assigned (k + 1) items
items-assigned k (item.Split s ∷ items) = items-assigned k items
items-assigned k (item.Using u ∷ items) = items-assigned k items

-- and so are the conflicts
pub items-conflicts : (k : ℕ) (items : List FlatItem) → conflicting (statements_from k items) ≡ among meet conflicts_of assigned_of items
items-conflicts k [] = refl
items-conflicts k (item.Act layer act ∷ items) =
    ap (λ l. conflicts layer [] act ++ l ++ later_places meet (standing layer [] act) (flat_map assigned_by (statements_from (k + count act) items))) (items-conflicts (k + count act) items)
    ∙ ap (λ l. conflicts layer [] act ++ among meet conflicts_of assigned_of items ++ later_places meet (standing layer [] act) l) (items-assigned (k + count act) items)
items-conflicts k (item.Claim c ∷ items) = items-conflicts (k + 1) items ∙ sym (append-nil (among meet conflicts_of assigned_of items))
items-conflicts k (item.Split s ∷ items) = items-conflicts k items ∙ sym (append-nil (among meet conflicts_of assigned_of items))
items-conflicts k (item.Using u ∷ items) = items-conflicts k items ∙ sym (append-nil (among meet conflicts_of assigned_of items))
