-- The equations of the tokens of items.
use Rattle.std.proofs.Common.{◌≡◌, ℕ, List, [], ◌∷◌, ◌++◌, ap, sym, ◌∙◌}
use Rattle.std.specs.List.{flat_map}
use Rattle.smv_core.specs.declared.tree.Word.{Word}
use Rattle.smv_core.specs.declared.tree.TypeExpr.{TypeExpr}
use Rattle.smv_core.specs.declared.tree.Expr.{Expr}
use Rattle.smv_core.specs.declared.tree.Stmt.{Stmt}
use Rattle.smv_core.specs.declared.tree.Role.{Role}
use Rattle.smv_core.specs.declared.tree.Pair.{Pair}
use Rattle.smv_core.specs.declared.tree.Ref.{Ref}
use Rattle.smv_core.specs.declared.tree.Use.{Use}
use Rattle.smv_core.specs.declared.tree.Item.{Item, fold-roll-Item}
use Rattle.smv_core.specs.declared.tree.Item.TheVariants as item
use Rattle.smv_core.specs.declared.tree.Item.TheOpen.{Item-F}
use Rattle.smv_core.specs.Signs.{open_brace, close_brace}
use Rattle.smv_print.specs.Written.{Kinds}
use Rattle.smv_print.specs.Statements.{stmt_kinds, binder}
use Rattle.smv_print.specs.Items.{item_kinds, item_step, declaration, instance, layer, claim, split, proof_of}
use Rattle.smv_print.proofs.Writing.{flat_map-each}

pub item-Declare : (how : Role) (names : List Word) (of : TypeExpr) (at : ℕ) → item_kinds (item.Declare how names of at) ≡ declaration how names of
unfolding item_kinds
item-Declare how names of at = ap item_kinds (sym (item.rolls-Declare how names of at)) ∙ fold-roll-Item Kinds item_step (Item-F.Declare how names of at)

pub item-Instance : (names : List Word) (m : Word) (args : List Expr) (at : ℕ) → item_kinds (item.Instance names m args at) ≡ instance names m args
unfolding item_kinds
item-Instance names m args at = ap item_kinds (sym (item.rolls-Instance names m args at)) ∙ fold-roll-Item Kinds item_step (Item-F.Instance names m args at)

pub item-Layer : (x : Word) (body : List Stmt) (at : ℕ) → item_kinds (item.Layer x body at) ≡ layer x body
unfolding item_kinds
item-Layer x body at = ap item_kinds (sym (item.rolls-Layer x body at)) ∙ fold-roll-Item Kinds item_step (Item-F.Layer x body at)

pub item-Forall : (v : Word) (over : TypeExpr) (body : Item) (at : ℕ) → item_kinds (item.Forall v over body at) ≡ binder v over ++ item_kinds body
unfolding item_kinds
item-Forall v over body at = ap item_kinds (sym (item.rolls-Forall v over body at)) ∙ fold-roll-Item Kinds item_step (Item-F.Forall v over body at)

pub item-Claim : (x : Word) (vars : List Word) (body : Expr) (at : ℕ) → item_kinds (item.Claim x vars body at) ≡ claim x vars body
unfolding item_kinds
item-Claim x vars body at = ap item_kinds (sym (item.rolls-Claim x vars body at)) ∙ fold-roll-Item Kinds item_step (Item-F.Claim x vars body at)

pub item-Split : (x : Word) (vars : List Word) (of : Ref) (pairs : List Pair) (at : ℕ) → item_kinds (item.Split x vars of pairs at) ≡ split x vars of pairs
unfolding item_kinds
item-Split x vars of pairs at = ap item_kinds (sym (item.rolls-Split x vars of pairs at)) ∙ fold-roll-Item Kinds item_step (Item-F.Split x vars of pairs at)

pub item-Using : (us : List Use) (proves : List Ref) (at : ℕ) → item_kinds (item.Using us proves at) ≡ proof_of us proves
unfolding item_kinds
item-Using us proves at = ap item_kinds (sym (item.rolls-Using us proves at)) ∙ fold-roll-Item Kinds item_step (Item-F.Using us proves at)

pub item-Act : (act : Stmt) → item_kinds (item.Act act) ≡ stmt_kinds act
unfolding item_kinds
item-Act act = ap item_kinds (sym (item.rolls-Act act)) ∙ fold-roll-Item Kinds item_step (Item-F.Act act)

pub item-Block : (items : List Item) → item_kinds (item.Block items) ≡ open_brace ∷ flat_map item_kinds items ++ close_brace ∷ []
unfolding item_kinds
item-Block items =
    ap item_kinds (sym (item.rolls-Block items)) ∙ fold-roll-Item Kinds item_step (Item-F.Block items)
    ∙ ap (λ (ks : Kinds). open_brace ∷ ks ++ close_brace ∷ []) (flat_map-each item_kinds items)

pub ruleset equations = (item-Declare, item-Instance, item-Layer, item-Forall, item-Claim, item-Split, item-Using, item-Act, item-Block)
