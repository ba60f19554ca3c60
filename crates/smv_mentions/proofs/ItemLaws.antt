-- What items say, on items that are made of lists and values.
use Rattle.std.proofs.Common.{◌≡◌, ℕ, List, [], ◌∷◌, ◌++◌, length, refl, ap, ◌∙◌}
use Rattle.std.specs.List.{flat_map}
use Rattle.smv_core.specs.declared.tree.Word.{Word}
use Rattle.smv_core.specs.declared.tree.TypeExpr.{TypeExpr}
use Rattle.smv_core.specs.declared.tree.Role.{Role}
use Rattle.smv_core.specs.declared.tree.Expr.{Expr}
use Rattle.smv_core.specs.declared.tree.Stmt.{Stmt}
use Rattle.smv_core.specs.declared.tree.Pair.{Pair}
use Rattle.smv_core.specs.declared.tree.Ref.{Ref}
use Rattle.smv_core.specs.declared.tree.Use.{Use}
use Rattle.smv_core.specs.declared.tree.Item.{Item, Declare, Instance, Layer, Forall, Block, Block', Claim, Split, Using, Act, Row_of-Item, end_of-Item, more_of-Item, items-the_row-Item, items_hidden-the_row-Item-1}
use mathlib.Core.Former.{Count}
use Rattle.smv_mentions.specs.Mentions.{declares, instantiates, signal, instance, goal, declared_as, in_type, in_expr, in_stmt, in_item, in_items, binder_in}
use Rattle.smv_mentions.proofs.Computing.{computing}

module _ (vars : List Word) where
  items-row : (n : _) (row : Row_of-Item n) → in_items vars row ≡ flat_map (in_item vars) (items-the_row-Item n row)
  unfolding in_item
  items-row n end_of-Item = refl
  items-row n (more_of-Item part rest) = ap (λ l. in_item vars part ++ l) (items-row _ rest)

  abbrev items_of : Item → (n : Count) × Row_of-Item n
  items_of (Block' shape row) = (_, row)
  items_of _ = (_, end_of-Item)

  pub item-Block : (items : List Item) → in_item vars (Block items) ≡ flat_map (in_item vars) items
  unfolding in_item
  item-Block items = items-row (items_of (Block items)).0 (items_of (Block items)).1 ∙ ap (λ l. flat_map (in_item vars) l) (items_hidden-the_row-Item-1 items)

  pub item-Forall : (var : Word) (over : TypeExpr) (body : Item) (at : ℕ) → in_item vars (Forall var over body at) ≡ binder_in vars var ∷ in_type over ++ in_item (vars ++ var ∷ []) body
  unfolding in_item computing
  item-Forall var over body at = refl

  pub item-Declare : (role : Role) (words : List Word) (of : TypeExpr) (at : ℕ) → in_item vars (Declare role words of at) ≡ declared_as (signal role of) words ++ in_type of
  unfolding in_item
  item-Declare role words of at = refl

  pub item-Instance : (words : List Word) (name : Word) (args : List Expr) (at : ℕ) →
      in_item vars (Instance words name args at) ≡ declared_as (instance name) words ++ instantiates name (length args) ∷ flat_map (in_expr vars) args
  unfolding in_item
  item-Instance words name args at = refl

  pub item-Layer : (word : Word) (body : List Stmt) (at : ℕ) → in_item vars (Layer word body at) ≡ flat_map (in_stmt vars) body
  unfolding in_item
  item-Layer word body at = refl

  pub item-Claim : (word : Word) (brackets : List Word) (body : Expr) (at : ℕ) → in_item vars (Claim word brackets body at) ≡ declares word goal ∷ in_expr vars body
  unfolding in_item
  item-Claim word brackets body at = refl

  pub item-Split : (word : Word) (brackets : List Word) (of : Ref) (pairs : List Pair) (at : ℕ) →
      in_item vars (Split word brackets of pairs at) ≡ declares word goal ∷ flat_map (λ pair. in_expr vars pair.left) pairs
  unfolding in_item
  item-Split word brackets of pairs at = refl

  pub item-Using : (uses : List Use) (proves : List Ref) (at : ℕ) → in_item vars (Using uses proves at) ≡ []
  unfolding in_item
  item-Using uses proves at = refl

  pub item-Act : (act : Stmt) → in_item vars (Act act) ≡ in_stmt vars act
  unfolding in_item
  item-Act act = refl

pub ruleset equations = (item-Block, item-Forall, item-Declare, item-Instance, item-Layer, item-Claim, item-Split, item-Using, item-Act)
