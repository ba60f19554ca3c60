-- What definitions mention, where the definitions are made of lists and values.
use Rattle.std.proofs.Common.{◌≡◌, ℕ, List, map, Bool, false, ◌&&◌, ◌||◌, refl, ap, ◌∙◌}
use Rattle.std.specs.List.{list_any}
use Rattle.smv_core.specs.FlatMeaning.{flat_index}
use Rattle.smv_core.specs.declared.flat.Simple.{Simple}
use Rattle.smv_core.specs.declared.flat.Class.{Class}
use Rattle.smv_core.specs.declared.flat.Element.{Element}
use Rattle.smv_core.specs.declared.flat.FlatExpr.{FlatExpr}
use Rattle.smv_core.specs.declared.flat.DefBody.{DefBody, Nothing, Assign, If, First, First', Forall, Row_of-DefBody, end_of-DefBody, more_of-DefBody, items-the_row-DefBody, items_hidden-the_row-DefBody-1}
use Rattle.law_obligations.proofs.Computing.{computing}
use Rattle.smv_may_read.specs.Mentions.{may_be_at, mentions, inside_mentioned, parts_mentioned, mentions_inside}
use mathlib.Core.Former.{Count}

abbrev rows_of : DefBody → (k : Count) × Row_of-DefBody k
rows_of (First' shape row) = (_, row)
rows_of _ = (_, end_of-DefBody)

module _ (xs : List Element) (own : List Class) (t : Bool) where
  parts-row : (k : _) (row : Row_of-DefBody k) → parts_mentioned xs own t row ≡ list_any (mentions_inside xs own t) (items-the_row-DefBody k row)
  unfolding mentions_inside
  parts-row k end_of-DefBody = refl
  parts-row k (more_of-DefBody part rest) = ap (λ b. inside_mentioned xs own t part || b) (parts-row _ rest)

  pub inside-Nothing : mentions_inside xs own t Nothing ≡ false
  unfolding mentions_inside
  inside-Nothing = refl

  pub inside-Assign : (left : List FlatExpr) (value : FlatExpr) (place at : ℕ) → mentions_inside xs own t (Assign left value place at) ≡ (may_be_at (map flat_index left) own && (t || (list_any (mentions xs) left || mentions xs value)))
  unfolding mentions_inside
  inside-Assign left value place at = refl

  pub inside-If : (cond : FlatExpr) (x y : DefBody) → mentions_inside xs own t (If cond x y) ≡ (mentions_inside xs own (t || mentions xs cond) x || mentions_inside xs own (t || mentions xs cond) y)
  unfolding mentions_inside computing
  inside-If cond x y = refl

  pub inside-First : (parts : List DefBody) → mentions_inside xs own t (First parts) ≡ list_any (mentions_inside xs own t) parts
  unfolding mentions_inside
  inside-First parts =
      let row : (k : Count) × Row_of-DefBody k = rows_of (First parts) in
      parts-row row.0 row.1 ∙ ap (list_any (mentions_inside xs own t)) (items_hidden-the_row-DefBody-1 parts)

  pub inside-Forall : (var : ℕ) (over : Simple) (body : DefBody) → mentions_inside xs own t (Forall var over body) ≡ mentions_inside xs own t body
  unfolding mentions_inside computing
  inside-Forall var over body = refl

pub ruleset equations = (inside-Nothing, inside-Assign, inside-If, inside-First, inside-Forall)
