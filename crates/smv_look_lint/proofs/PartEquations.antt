-- The strays of the parts of a definition that are made of lists and values.
use Rattle.std.proofs.Common.{◌≡◌, ◌∙◌, ℕ, List, [], ◌++◌, refl, ap}
use Rattle.std.specs.List.{flat_map}
use mathlib.Core.Former.{Count}
use Rattle.smv_core.specs.declared.flat.Simple.{Simple}
use Rattle.smv_core.specs.declared.flat.FlatExpr.{FlatExpr}
use Rattle.smv_core.specs.declared.flat.DefBody.{DefBody, Nothing, Assign, If, First, First', Forall, Row_of-DefBody, end_of-DefBody, more_of-DefBody, items-the_row-DefBody, items_hidden-the_row-DefBody-1}
use Rattle.smv_look_lint.specs.Strays.{part_strays, parts_strays, strays}

unfoldable boxes : Unit {0}
unfolding Rattle.smv_core.specs.declared.flat.DefBody.TheBlock.hidden-the_row-DefBody-0 Rattle.smv_core.specs.declared.flat.DefBody.TheBlock.shape-the_row-DefBody-0 denote.Hole.Carrier.hidden
boxes = tt

module _ (family : ℕ) (over : Simple) where
  parts-row : (n : _) (row : Row_of-DefBody n) → parts_strays family over row ≡ flat_map (part_strays family over) (items-the_row-DefBody n row)
  unfolding part_strays
  parts-row n end_of-DefBody = refl
  parts-row n (more_of-DefBody part rest) = ap (λ l. part_strays family over part ++ l) (parts-row _ rest)

  abbrev parts_in : DefBody → (k : Count) × Row_of-DefBody k
  parts_in (First' shape row) = (_, row)
  parts_in _ = (_, end_of-DefBody)

  pub part-Nothing : part_strays family over Nothing ≡ []
  unfolding part_strays
  part-Nothing = refl

  pub part-Assign : (left : List FlatExpr) (value : FlatExpr) (place at : ℕ) → part_strays family over (Assign left value place at) ≡ strays family over value
  unfolding part_strays
  part-Assign left value place at = refl

  pub part-If : (cond : FlatExpr) (left right : DefBody) → part_strays family over (If cond left right) ≡ part_strays family over left ++ part_strays family over right
  unfolding part_strays boxes
  part-If cond left right = refl

  pub part-First : (parts : List DefBody) → part_strays family over (First parts) ≡ flat_map (part_strays family over) parts
  unfolding part_strays
  part-First parts = parts-row (parts_in (First parts)).0 (parts_in (First parts)).1 ∙ ap (flat_map (part_strays family over)) (items_hidden-the_row-DefBody-1 parts)

  pub part-Forall : (var : ℕ) (each : Simple) (body : DefBody) → part_strays family over (Forall var each body) ≡ part_strays family over body
  unfolding part_strays boxes
  part-Forall var each body = refl

pub ruleset equations = (part-Nothing, part-Assign, part-If, part-First, part-Forall)
