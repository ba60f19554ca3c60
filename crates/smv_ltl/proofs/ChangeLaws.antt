-- The claims that are changed: on items that are made of lists and values.
use Rattle.std.proofs.Common.{◌≡◌, ℕ, List, [], ◌∷◌, ◌++◌, map, refl, ap, ◌∙◌}
use Rattle.std.specs.List.{flat_map}
use Rattle.std.proofs.lemmas.List.{append-nil, map-append}
use Rattle.smv_core.specs.declared.tree.Word.{Word}
use Rattle.smv_core.specs.declared.tree.TypeExpr.{TypeExpr}
use Rattle.smv_core.specs.declared.tree.Role.{Role}
use Rattle.smv_core.specs.declared.tree.Expr.{Expr}
use Rattle.smv_core.specs.declared.tree.Stmt.{Stmt}
use Rattle.smv_core.specs.declared.tree.Pair.{Pair}
use Rattle.smv_core.specs.declared.tree.Ref.{Ref}
use Rattle.smv_core.specs.declared.tree.Use.{Use}
use Rattle.smv_core.specs.declared.tree.Item.{Item, Declare, Instance, Layer, Forall, Block, Block', Split, Using, Act, Row_of-Item, end_of-Item, more_of-Item, items-the_row-Item, items_hidden-the_row-Item-1}
use mathlib.Core.Former.{Count}
use Rattle.smv_mentions.proofs.Computing.{computing}
use Rattle.law_formulas.specs.Monitors.{Around, Watched}
use Rattle.law_translated_texts.specs.Translation.{changed_in, changed_among}

module _ (plan : List (ℕ × Watched)) (around : Around) where
  items-row : (n : _) (row : Row_of-Item n) → changed_among plan around row ≡ flat_map (changed_in plan around) (items-the_row-Item n row)
  items-row n end_of-Item = refl
  items-row n (more_of-Item part rest) = ap (λ l. changed_in plan around part ++ l) (items-row _ rest)

  abbrev items_of : Item → (n : Count) × Row_of-Item n
  items_of (Block' shape row) = (_, row)
  items_of _ = (_, end_of-Item)

  pub item-Block : (items : List Item) → changed_in plan around (Block items) ≡ flat_map (changed_in plan around) items
  item-Block items = items-row (items_of (Block items)).0 (items_of (Block items)).1 ∙ ap (λ l. flat_map (changed_in plan around) l) (items_hidden-the_row-Item-1 items)

  pub item-Forall : (word : Word) (over : TypeExpr) (body : Item) (at : ℕ) → changed_in plan around (Forall word over body at) ≡ changed_in plan (around ++ (word, over) ∷ []) body
  unfolding computing
  item-Forall word over body at = refl

  pub item-Declare : (role : Role) (words : List Word) (of : TypeExpr) (at : ℕ) → changed_in plan around (Declare role words of at) ≡ []
  item-Declare role words of at = refl

  pub item-Instance : (words : List Word) (word : Word) (args : List Expr) (at : ℕ) → changed_in plan around (Instance words word args at) ≡ []
  item-Instance words word args at = refl

  pub item-Layer : (word : Word) (body : List Stmt) (at : ℕ) → changed_in plan around (Layer word body at) ≡ []
  item-Layer word body at = refl

  pub item-Split : (word : Word) (brackets : List Word) (of : Ref) (pairs : List Pair) (at : ℕ) → changed_in plan around (Split word brackets of pairs at) ≡ []
  item-Split word brackets of pairs at = refl

  pub item-Using : (uses : List Use) (proves : List Ref) (at : ℕ) → changed_in plan around (Using uses proves at) ≡ []
  item-Using uses proves at = refl

  pub item-Act : (act : Stmt) → changed_in plan around (Act act) ≡ []
  item-Act act = refl

pub ruleset equations = (append-nil, item-Block, item-Forall, item-Declare, item-Instance, item-Layer, item-Split, item-Using, item-Act)
