-- What is doubted of the parts of a definition that are made of lists and values.
use Rattle.std.proofs.Common.{◌≡◌, ◌∙◌, ℕ, List, [], ◌++◌, true, false, refl, ap}
use Rattle.std.specs.List.{flat_map}
use mathlib.Core.Former.{Count}
use Rattle.smv_core.specs.declared.flat.Simple.{Simple}
use Rattle.smv_core.specs.declared.flat.Family.{Family}
use Rattle.smv_core.specs.declared.flat.FlatExpr.{FlatExpr}
use Rattle.smv_core.specs.declared.flat.DefBody.{DefBody, Nothing, Assign, If, First, First', Forall, Row_of-DefBody, end_of-DefBody, more_of-DefBody, items-the_row-DefBody, items_hidden-the_row-DefBody-1}
use Rattle.smv_look_bounds.specs.Narrowing.{Given}
use Rattle.smv_look_bounds.specs.Doubts.{bound, condition_doubt, doubts, part_doubts, parts_doubts, under, values}

unfoldable boxes : Unit {0}
unfolding Rattle.smv_core.specs.declared.flat.DefBody.TheBlock.hidden-the_row-DefBody-0 Rattle.smv_core.specs.declared.flat.DefBody.TheBlock.shape-the_row-DefBody-0 denote.Hole.Carrier.hidden
boxes = tt

abbrev parts_in : DefBody → (k : Count) × Row_of-DefBody k
parts_in (First' shape row) = (_, row)
parts_in _ = (_, end_of-DefBody)

module _ (families : List Family) (over : Simple) where
  row-parts : (vars : List Simple) (givens : List Given) (n : _) (row : Row_of-DefBody n) → parts_doubts families over vars givens row ≡ flat_map (part_doubts families over vars givens) (items-the_row-DefBody n row)
  unfolding part_doubts
  row-parts vars givens n end_of-DefBody = refl
  row-parts vars givens n (more_of-DefBody part rest) = ap (λ l. part_doubts families over vars givens part ++ l) (row-parts vars givens _ rest)

  pub part-Nothing : (vars : List Simple) (givens : List Given) → part_doubts families over vars givens Nothing ≡ []
  unfolding part_doubts
  part-Nothing vars givens = refl

  pub part-Assign : (vars : List Simple) (givens : List Given) (left : List FlatExpr) (value : FlatExpr) (place at : ℕ) → part_doubts families over vars givens (Assign left value place at) ≡ flat_map (doubts families vars givens) left ++ values families over vars givens value ++ doubts families vars givens value
  unfolding part_doubts
  part-Assign vars givens left value place at = refl

  pub part-If : (vars : List Simple) (givens : List Given) (cond : FlatExpr) (left right : DefBody) → part_doubts families over vars givens (If cond left right) ≡ condition_doubt cond ++ doubts families vars givens cond ++ part_doubts families over vars (under givens true cond) left ++ part_doubts families over vars (under givens false cond) right
  unfolding part_doubts boxes
  part-If vars givens cond left right = refl

  pub part-First : (vars : List Simple) (givens : List Given) (parts : List DefBody) → part_doubts families over vars givens (First parts) ≡ flat_map (part_doubts families over vars givens) parts
  unfolding part_doubts
  part-First vars givens parts = row-parts vars givens (parts_in (First parts)).0 (parts_in (First parts)).1 ∙ ap (flat_map (part_doubts families over vars givens)) (items_hidden-the_row-DefBody-1 parts)

  pub part-Forall : (vars : List Simple) (givens : List Given) (var : ℕ) (each : Simple) (body : DefBody) → part_doubts families over vars givens (Forall var each body) ≡ part_doubts families over (bound vars var each) givens body
  unfolding part_doubts boxes
  part-Forall vars givens var each body = refl

pub ruleset equations = (part-Nothing, part-Assign, part-If, part-First, part-Forall)
