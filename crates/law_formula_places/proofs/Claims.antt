-- Trees whose claims, as far as they are changed, have names at places of at most a number.
use Rattle.std.proofs.Common.{◌≡◌, ◌≤◌, ℕ, List, [], ◌∷◌, ◌++◌, flat_map, Option, Some, None, refl, sym, ap, ◌∙◌, subst}
use Rattle.std.specs.List.{AllByRecursion}
use Rattle.law_lists.proofs.Each.{each_flat_map}
use Rattle.smv_core.specs.declared.tree.Word.{Word}
use Rattle.smv_core.specs.declared.tree.Expr.{Expr}
use Rattle.smv_core.specs.declared.tree.Expr as expr
use Rattle.smv_core.specs.declared.tree.TypeExpr.{TypeExpr}
use Rattle.smv_core.specs.declared.tree.Item.{Item, Row_of-Item, end_of-Item, more_of-Item, items-the_row-Item, items_hidden-the_row-Item-1}
use Rattle.smv_core.specs.declared.tree.Item.TheVariants as item
use Rattle.smv_core.specs.declared.tree.Top.{Top}
use Rattle.smv_core.specs.declared.tree.Top.TheVariants as top
use Rattle.law_places.proofs.Computing.{computing}
use Rattle.law_designs.proofs.WrittenForms.{items_in}
use Rattle.law_formulas.specs.Formulas.{at_place}
use Rattle.law_formulas.specs.Monitors.{Watched, Around}
use Rattle.law_translated_texts.specs.Translation.{Changed, if_changed, changed_in, changed_among}

abbrev pub Plan : Type 0
Plan = List (ℕ × Watched)

-- ---- the changed claims of items that are made of parts

changed-Forall : (plan : Plan) (around : Around) (x : Word) (over : TypeExpr) (body : Item) (at : ℕ) → changed_in plan around (item.Forall x over body at) ≡ changed_in plan (around ++ (x, over) ∷ []) body
unfolding computing
changed-Forall plan around x over body at = refl

changed-row : (plan : Plan) (around : Around) (k : _) (row : Row_of-Item k) → changed_among plan around row ≡ flat_map (changed_in plan around) (items-the_row-Item k row)
changed-row plan around k end_of-Item = refl
changed-row plan around k (more_of-Item x rest) = ap (λ l. changed_in plan around x ++ l) (changed-row plan around _ rest)

changed-Block : (plan : Plan) (around : Around) (xs : List Item) → changed_in plan around (item.Block xs) ≡ flat_map (changed_in plan around) xs
changed-Block plan around xs = changed-row plan around (items_in (item.Block xs)).0 (items_in (item.Block xs)).1 ∙ ap (flat_map (changed_in plan around)) (items_hidden-the_row-Item-1 xs)

-- ---- their names

module _ (n : ℕ) where
  abbrev pub IsNamed : Changed → Type 0
  IsNamed c = c.name ≤ n

  -- whatever the plan and the binders
  abbrev pub ClaimsStand : Item → Type 0
  ClaimsStand x = (plan : Plan) (around : Around) → AllByRecursion IsNamed (changed_in plan around x)

  abbrev pub TopStands : Top → Type 0
  TopStands (top.Module x formals items at) = AllByRecursion ClaimsStand items
  TopStands other = Unit {0}

  pub claim-stands : (x : Word) (vars : List Word) (e : Expr) (at : ℕ) → x.at ≤ n → ClaimsStand (item.Claim x vars e at)
  claim-stands x vars (expr.Number value place) at h = λ plan around. by_entry around (at_place plan place)
    where
      by_entry : (around : Around) (o : Option Watched) → AllByRecursion IsNamed (if_changed x around place o)
      by_entry around None = tt
      by_entry around (Some w) = (h, tt)
  claim-stands x vars e at h = λ plan around. tt

  pub forall-stands : (x : Word) (over : TypeExpr) (body : Item) (at : ℕ) → ClaimsStand body → ClaimsStand (item.Forall x over body at)
  forall-stands x over body at h = λ plan around. subst (AllByRecursion IsNamed) (sym (changed-Forall plan around x over body at)) (h plan (around ++ (x, over) ∷ []))

  pub block-stands : (xs : List Item) → AllByRecursion ClaimsStand xs → ClaimsStand (item.Block xs)
  block-stands xs h = λ plan around. subst (AllByRecursion IsNamed) (sym (changed-Block plan around xs)) (claims-stand plan around)
    where
      claims-stand : (plan : Plan) (around : Around) → AllByRecursion IsNamed (flat_map (changed_in plan around) xs)
      claims-stand plan around = each_flat_map ClaimsStand IsNamed (changed_in plan around) (λ x k. k plan around) xs h
