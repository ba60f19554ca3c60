-- The assignments of a definition, on definitions that are made of lists and values.
use Rattle.std.proofs.Common.{◌≡◌, ℕ, List, [], ◌∷◌, ◌++◌, map, refl, ap, ◌∙◌}
use Rattle.std.specs.List.{flat_map}
use Rattle.smv_core.specs.declared.flat.Simple.{Simple}
use Rattle.smv_core.specs.declared.flat.FlatExpr.{FlatExpr}
use Rattle.smv_core.specs.declared.flat.DefBody.{DefBody, Nothing, If, First, Forall, Assign, First', Row_of-DefBody, end_of-DefBody, more_of-DefBody, items-the_row-DefBody, items_hidden-the_row-DefBody-1}
use Rattle.law_designs.specs.Reading.{Reference, readings_of}
use Rattle.smv_loops.specs.Held.{index_in, read_in, assigned_in}
use Rattle.smv_loops.proofs.Computing.{boxes}
use mathlib.Core.Former.{Count}

abbrev rows_of : DefBody → (k : Count) × Row_of-DefBody k
rows_of (First' shape row) = (_, row)
rows_of _ = (_, end_of-DefBody)

module _ (family : ℕ) (around : List Reference) where
  parts-row : (k : _) (row : Row_of-DefBody k) → readings_of family around row ≡ flat_map (assigned_in family around) (items-the_row-DefBody k row)
  unfolding assigned_in index_in read_in
  parts-row k end_of-DefBody = refl
  parts-row k (more_of-DefBody part rest) = ap (λ l. assigned_in family around part ++ l) (parts-row _ rest)

  pub part-First : (parts : List DefBody) → assigned_in family around (First parts) ≡ flat_map (assigned_in family around) parts
  unfolding assigned_in index_in read_in
  part-First parts =
      let row : (k : Count) × Row_of-DefBody k = rows_of (First parts) in
      parts-row row.0 row.1 ∙ ap (flat_map (assigned_in family around)) (items_hidden-the_row-DefBody-1 parts)

  pub part-Nothing : assigned_in family around Nothing ≡ []
  unfolding assigned_in index_in read_in
  part-Nothing = refl

  pub part-Assign : (left : List FlatExpr) (value : FlatExpr) (place at : ℕ) → assigned_in family around (Assign left value place at) ≡ record { family = family; left = map index_in left; reads = around ++ flat_map read_in left ++ read_in value; place = place; at = at } ∷ []
  unfolding assigned_in index_in read_in
  part-Assign left value place at = refl

  pub part-If : (cond : FlatExpr) (x y : DefBody) → assigned_in family around (If cond x y) ≡ assigned_in family (around ++ read_in cond) x ++ assigned_in family (around ++ read_in cond) y
  unfolding assigned_in index_in read_in boxes
  part-If cond x y = refl

  pub part-Forall : (var : ℕ) (over : Simple) (body : DefBody) → assigned_in family around (Forall var over body) ≡ assigned_in family around body
  unfolding assigned_in index_in read_in boxes
  part-Forall var over body = refl

pub ruleset equations = (part-First, part-Nothing, part-Assign, part-If, part-Forall)
