-- The equations of items with their places aside.
use Rattle.std.proofs.Common.{◌≡◌, ℕ, List, map, ap, sym, ◌∙◌}
use Rattle.smv_core.specs.declared.tree.Word.{Word}
use Rattle.smv_core.specs.declared.tree.TypeExpr.{TypeExpr}
use Rattle.smv_core.specs.declared.tree.Expr.{Expr}
use Rattle.smv_core.specs.declared.tree.Stmt.{Stmt}
use Rattle.smv_core.specs.declared.tree.Role.{Role}
use Rattle.smv_core.specs.declared.tree.Pair.{Pair}
use Rattle.smv_core.specs.declared.tree.Ref.{Ref}
use Rattle.smv_core.specs.declared.tree.Use.{Use}
use Rattle.smv_core.specs.declared.tree.Item.{Item, Item-F, fold-roll-Item}
use Rattle.smv_core.specs.declared.tree.Item.TheVariants as item
use Rattle.law_print_and_parse.specs.Aside.{word_aside, type_aside, expr_aside, stmt_aside, ref_aside, use_aside, pair_aside, item_aside, item_aside_step}

pub item-Declare : (how : Role) (names : List Word) (of : TypeExpr) (at : ℕ) → item_aside (item.Declare how names of at) ≡ item.Declare how (map word_aside names) (type_aside of) 0
unfolding item_aside
item-Declare how names of at = ap item_aside (sym (item.rolls-Declare how names of at)) ∙ fold-roll-Item Item item_aside_step (Item-F.Declare how names of at)

pub item-Instance : (names : List Word) (m : Word) (args : List Expr) (at : ℕ) → item_aside (item.Instance names m args at) ≡ item.Instance (map word_aside names) (word_aside m) (map expr_aside args) 0
unfolding item_aside
item-Instance names m args at = ap item_aside (sym (item.rolls-Instance names m args at)) ∙ fold-roll-Item Item item_aside_step (Item-F.Instance names m args at)

pub item-Layer : (x : Word) (body : List Stmt) (at : ℕ) → item_aside (item.Layer x body at) ≡ item.Layer (word_aside x) (map stmt_aside body) 0
unfolding item_aside
item-Layer x body at = ap item_aside (sym (item.rolls-Layer x body at)) ∙ fold-roll-Item Item item_aside_step (Item-F.Layer x body at)

pub item-Forall : (v : Word) (over : TypeExpr) (body : Item) (at : ℕ) → item_aside (item.Forall v over body at) ≡ item.Forall (word_aside v) (type_aside over) (item_aside body) 0
unfolding item_aside
item-Forall v over body at = ap item_aside (sym (item.rolls-Forall v over body at)) ∙ fold-roll-Item Item item_aside_step (Item-F.Forall v over body at)

pub item-Block : (items : List Item) → item_aside (item.Block items) ≡ item.Block (map item_aside items)
unfolding item_aside
item-Block items = ap item_aside (sym (item.rolls-Block items)) ∙ fold-roll-Item Item item_aside_step (Item-F.Block items)

pub item-Claim : (x : Word) (vars : List Word) (body : Expr) (at : ℕ) → item_aside (item.Claim x vars body at) ≡ item.Claim (word_aside x) (map word_aside vars) (expr_aside body) 0
unfolding item_aside
item-Claim x vars body at = ap item_aside (sym (item.rolls-Claim x vars body at)) ∙ fold-roll-Item Item item_aside_step (Item-F.Claim x vars body at)

pub item-Split : (x : Word) (vars : List Word) (of : Ref) (pairs : List Pair) (at : ℕ) → item_aside (item.Split x vars of pairs at) ≡ item.Split (word_aside x) (map word_aside vars) (ref_aside of) (map pair_aside pairs) 0
unfolding item_aside
item-Split x vars of pairs at = ap item_aside (sym (item.rolls-Split x vars of pairs at)) ∙ fold-roll-Item Item item_aside_step (Item-F.Split x vars of pairs at)

pub item-Using : (us : List Use) (proves : List Ref) (at : ℕ) → item_aside (item.Using us proves at) ≡ item.Using (map use_aside us) (map ref_aside proves) 0
unfolding item_aside
item-Using us proves at = ap item_aside (sym (item.rolls-Using us proves at)) ∙ fold-roll-Item Item item_aside_step (Item-F.Using us proves at)

pub item-Act : (act : Stmt) → item_aside (item.Act act) ≡ item.Act (stmt_aside act)
unfolding item_aside
item-Act act = ap item_aside (sym (item.rolls-Act act)) ∙ fold-roll-Item Item item_aside_step (Item-F.Act act)
