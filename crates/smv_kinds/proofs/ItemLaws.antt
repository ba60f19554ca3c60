-- The faults in items, on items that are made of lists and values.
use Rattle.std.proofs.Common.{◌≡◌, ℕ, List, [], ◌∷◌, ◌++◌, refl, ap, ◌∙◌}
use Rattle.std.specs.List.{flat_map}
use Rattle.smv_core.specs.Types.{find_name}
use Rattle.smv_core.specs.declared.tree.Word.{Word}
use Rattle.smv_core.specs.declared.tree.TypeExpr.{TypeExpr}
use Rattle.smv_core.specs.declared.tree.Role.{Role}
use Rattle.smv_core.specs.declared.tree.Role.TheVariants.{Plain, Abstract}
use Rattle.smv_core.specs.declared.tree.Expr.{Expr}
use Rattle.smv_core.specs.declared.tree.Stmt.{Stmt}
use Rattle.smv_core.specs.declared.tree.Pair.{Pair}
use Rattle.smv_core.specs.declared.tree.Ref.{Ref}
use Rattle.smv_core.specs.declared.tree.Use.{Use}
use Rattle.smv_core.specs.declared.tree.Item.{Item, Declare, Instance, Layer, Forall, Block, Block', Claim, Split, Using, Act, Row_of-Item, end_of-Item, more_of-Item, items-the_row-Item, items_hidden-the_row-Item-1}
use mathlib.Core.Former.{Count}
use Rattle.law_designs.specs.Kinds.{takes_number}
use Rattle.law_designs.specs.Types.{Types, index_faults, type_faults}
use Rattle.law_designs.specs.References.{Scope, Vars}
use Rattle.law_designs.specs.Operands.{operand, bind}
use Rattle.law_designs.specs.KindFaults.{in_stmt, in_item, in_items, in_arguments, formal_faults}
use Rattle.smv_mentions.proofs.Computing.{computing}

module _ (scope : Scope) (vars : Vars) where
  items-row : (n : _) (row : Row_of-Item n) → in_items scope vars row ≡ flat_map (in_item scope vars) (items-the_row-Item n row)
  unfolding in_item
  items-row n end_of-Item = refl
  items-row n (more_of-Item part rest) = ap (λ l. in_item scope vars part ++ l) (items-row _ rest)

  abbrev items_of : Item → (n : Count) × Row_of-Item n
  items_of (Block' shape row) = (_, row)
  items_of _ = (_, end_of-Item)

  pub item-Block : (items : List Item) → in_item scope vars (Block items) ≡ flat_map (in_item scope vars) items
  unfolding in_item
  item-Block items = items-row (items_of (Block items)).0 (items_of (Block items)).1 ∙ ap (λ l. flat_map (in_item scope vars) l) (items_hidden-the_row-Item-1 items)

  pub item-Forall : (var : Word) (over : TypeExpr) (body : Item) (at : ℕ) → in_item scope vars (Forall var over body at) ≡ index_faults scope.here.types over ++ in_item scope (bind scope vars var over) body
  unfolding in_item computing
  item-Forall var over body at = refl

  pub item-Declare : (role : Role) (words : List Word) (of : TypeExpr) (at : ℕ)
      → in_item scope vars (Declare role words of at) ≡ flat_map (formal_faults scope.here.types role of) words ++ type_faults scope.here.types of
  unfolding in_item
  item-Declare role words of at = refl

  pub item-Instance : (words : List Word) (name : Word) (args : List Expr) (at : ℕ) → in_item scope vars (Instance words name args at) ≡ in_arguments scope (find_name scope.modules name.name) args
  unfolding in_item
  item-Instance words name args at = refl

  pub item-Layer : (word : Word) (body : List Stmt) (at : ℕ) → in_item scope vars (Layer word body at) ≡ flat_map (in_stmt scope vars) body
  unfolding in_item
  item-Layer word body at = refl

  pub item-Claim : (word : Word) (brackets : List Word) (body : Expr) (at : ℕ) → in_item scope vars (Claim word brackets body at) ≡ takes_number (operand scope vars body)
  unfolding in_item
  item-Claim word brackets body at = refl

  pub item-Split : (word : Word) (brackets : List Word) (of : Ref) (pairs : List Pair) (at : ℕ)
      → in_item scope vars (Split word brackets of pairs at) ≡ flat_map (λ pair. (operand scope vars pair.left).faults) pairs
  unfolding in_item
  item-Split word brackets of pairs at = refl

  pub item-Using : (uses : List Use) (proves : List Ref) (at : ℕ) → in_item scope vars (Using uses proves at) ≡ []
  unfolding in_item
  item-Using uses proves at = refl

  pub item-Act : (act : Stmt) → in_item scope vars (Act act) ≡ in_stmt scope vars act
  unfolding in_item
  item-Act act = refl

pub ruleset equations = (item-Block, item-Forall, item-Declare, item-Instance, item-Layer, item-Claim, item-Split, item-Using, item-Act)

-- what has no role is no formal
pub plain-formals : (types : Types) (of : TypeExpr) (words : List Word) → flat_map (formal_faults types Plain of) words ≡ []
plain-formals types of [] = refl
plain-formals types of (word ∷ words) = plain-formals types of words

pub abstract-formals : (types : Types) (of : TypeExpr) (words : List Word) → flat_map (formal_faults types Abstract of) words ≡ []
abstract-formals types of [] = refl
abstract-formals types of (word ∷ words) = abstract-formals types of words

pub ruleset no_formals = (plain-formals, abstract-formals)
