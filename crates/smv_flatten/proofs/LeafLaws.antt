-- What items say one by one, on items that are made of lists and values.
use Rattle.std.proofs.Common.{◌≡◌, ℕ, List, [], ◌∷◌, ◌++◌, map, refl, ap, ◌∙◌}
use Rattle.std.specs.List.{flat_map}
use Rattle.smv_core.specs.declared.tree.Word.{Word}
use Rattle.smv_core.specs.declared.tree.TypeExpr.{TypeExpr}
use Rattle.smv_core.specs.declared.tree.Role.{Role}
use Rattle.smv_core.specs.declared.tree.Expr.{Expr}
use Rattle.smv_core.specs.declared.tree.Stmt.{Stmt}
use Rattle.smv_core.specs.declared.tree.Pair.{Pair}
use Rattle.smv_core.specs.declared.tree.Ref.{Ref}
use Rattle.smv_core.specs.declared.tree.Use.{Use}
use Rattle.smv_core.specs.declared.tree.Item.{Item, Declare, Instance, Layer, Forall, Block, Block', Claim, Split, Using, Act, Row_of-Item, end_of-Item, more_of-Item, items-the_row-Item, items_hidden-the_row-Item-1}
use mathlib.Core.Former.{Count}
use Rattle.smv_mentions.proofs.Computing.{computing}
use Rattle.law_designs.specs.Entries.{Binders}
use Rattle.smv_flatten.specs.Leaves.{leaves, leaves_in}

module _ (around : Binders) where
  leaves-row : (n : _) (row : Row_of-Item n) → leaves_in around row ≡ flat_map (leaves around) (items-the_row-Item n row)
  unfolding leaves
  leaves-row n end_of-Item = refl
  leaves-row n (more_of-Item item rest) = ap (λ l. leaves around item ++ l) (leaves-row _ rest)

  abbrev items_of : Item → (n : Count) × Row_of-Item n
  items_of (Block' shape row) = (_, row)
  items_of _ = (_, end_of-Item)

  pub leaves-Declare : (role : Role) (words : List Word) (of : TypeExpr) (at : ℕ) → leaves around (Declare role words of at) ≡ []
  unfolding leaves
  leaves-Declare role words of at = refl

  pub leaves-Instance : (words : List Word) (of : Word) (args : List Expr) (at : ℕ) → leaves around (Instance words of args at) ≡ map (λ word. (around, Instance (word ∷ []) of args 0)) words
  unfolding leaves
  leaves-Instance words of args at = refl

  pub leaves-Layer : (word : Word) (body : List Stmt) (at : ℕ) → leaves around (Layer word body at) ≡ (around, Layer word body 0) ∷ []
  unfolding leaves
  leaves-Layer word body at = refl

  pub leaves-Claim : (word : Word) (vars : List Word) (body : Expr) (at : ℕ) → leaves around (Claim word vars body at) ≡ (around, Claim word vars body at) ∷ []
  unfolding leaves
  leaves-Claim word vars body at = refl

  pub leaves-Split : (word : Word) (vars : List Word) (of : Ref) (pairs : List Pair) (at : ℕ) → leaves around (Split word vars of pairs at) ≡ (around, Split word vars of pairs at) ∷ []
  unfolding leaves
  leaves-Split word vars of pairs at = refl

  pub leaves-Using : (uses : List Use) (proves : List Ref) (at : ℕ) → leaves around (Using uses proves at) ≡ (around, Using uses proves at) ∷ []
  unfolding leaves
  leaves-Using uses proves at = refl

  pub leaves-Act : (act : Stmt) → leaves around (Act act) ≡ (around, Act act) ∷ []
  unfolding leaves
  leaves-Act act = refl

  pub leaves-Block : (items : List Item) → leaves around (Block items) ≡ flat_map (leaves around) items
  unfolding leaves
  leaves-Block items = leaves-row (items_of (Block items)).0 (items_of (Block items)).1 ∙ ap (λ l. flat_map (leaves around) l) (items_hidden-the_row-Item-1 items)

  pub leaves-Forall : (var : Word) (over : TypeExpr) (body : Item) (at : ℕ) → leaves around (Forall var over body at) ≡ leaves (around ++ (var, over) ∷ []) body
  unfolding leaves computing
  leaves-Forall var over body at = refl

pub ruleset equations = (leaves-Declare, leaves-Instance, leaves-Layer, leaves-Claim, leaves-Split, leaves-Using, leaves-Act, leaves-Block, leaves-Forall)
