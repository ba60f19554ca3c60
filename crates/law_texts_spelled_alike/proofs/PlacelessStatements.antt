-- Types, statements and items without their places, where they are made of lists and values; and which statements end in an open `if`.
use Rattle.std.proofs.Common.{◌≡◌, ℕ, Bool, true, false, List, [], ◌∷◌, map, Option, Some, None, refl, ap, sym, ◌∙◌}
use Rattle.smv_core.specs.declared.tree.Word.{Word}
use Rattle.smv_core.specs.declared.tree.Kind.{Kind}
use Rattle.smv_core.specs.declared.tree.Role.{Role}
use Rattle.smv_core.specs.declared.tree.Path.{Path}
use Rattle.smv_core.specs.declared.tree.Expr.{Expr}
use Rattle.smv_core.specs.declared.tree.Ref.{Ref}
use Rattle.smv_core.specs.declared.tree.Pair.{Pair}
use Rattle.smv_core.specs.declared.tree.Use.{Use}
use Rattle.smv_core.specs.declared.tree.TypeExpr.{TypeExpr, Enum, Array, Struct, Struct', Row_of-Field, end_of-Field, more_of-Field, items-the_row-Field, items_hidden-the_row-Field-1, items_shown-the_row-Field-1, out-TypeExpr, roll-TypeExpr, roll-out-TypeExpr}
use Rattle.smv_core.specs.declared.tree.Field.{Field, roll-Field, out-Field}
use Rattle.smv_core.specs.declared.tree.Arm.{Arm, roll-Arm, out-Arm}
use Rattle.smv_core.specs.declared.tree.Stmt.{Stmt, Assign, Block, Block', If, Switch, Switch', Default, For, Forall, None', Some', Row_of-Stmt, end_of-Stmt, more_of-Stmt, Row_of-Arm, end_of-Arm, more_of-Arm, items-the_row-Stmt, items-the_row-Arm, items_hidden-the_row-Stmt-0, items_hidden-the_row-Arm-2, items_shown-the_row-Stmt-0, items_shown-the_row-Arm-2, out-Stmt, roll-Stmt, roll-out-Stmt}
use Rattle.smv_core.specs.declared.tree.Stmt.TheVariants as stmt
use Rattle.smv_core.specs.declared.tree.Stmt.TheOpen.{Stmt-F}
use Rattle.smv_core.specs.declared.tree.Stmt.TheFolds.{fold-roll-Stmt}
use Rattle.smv_core.specs.OpenIf.{ends_in_open_if, open_at}
use Rattle.smv_core.specs.declared.tree.Item as item
use Rattle.smv_core.specs.declared.tree.Item.{Item, Declare, Instance, Layer, Claim, Split, Using, Act, Row_of-Item, end_of-Item, more_of-Item, items-the_row-Item, items_hidden-the_row-Item-1, items_shown-the_row-Item-1, out-Item, roll-Item, roll-out-Item}
use mathlib.Core.Former.{Count}
use Rattle.law_places.specs.Placeless.{placeless_word, placeless_type, placeless_fields, placeless, placeless_path, placeless_stmt, placeless_stmts, placeless_arms, placeless_item, placeless_items}

-- what lets rows compute
unfoldable pub computing : Unit {0}
unfolding roll-TypeExpr out-TypeExpr roll-Stmt out-Stmt roll-Item out-Item Rattle.smv_core.specs.declared.tree.TypeExpr.TheBlock.shown-the_row-Field-1 Rattle.smv_core.specs.declared.tree.TypeExpr.TheBlock.shown-the_row-TypeExpr-0 Rattle.smv_core.specs.declared.tree.TypeExpr.TheBlock.hidden-the_row-Field-1 Rattle.smv_core.specs.declared.tree.TypeExpr.TheBlock.hidden-the_row-TypeExpr-0 Rattle.smv_core.specs.declared.tree.TypeExpr.TheBlock.shape-the_row-Field-1 Rattle.smv_core.specs.declared.tree.TypeExpr.TheBlock.shape-the_row-TypeExpr-0 Rattle.smv_core.specs.declared.tree.Stmt.TheBlock.shown-the_row-Stmt-0 Rattle.smv_core.specs.declared.tree.Stmt.TheBlock.shown-the_row-Stmt-1 Rattle.smv_core.specs.declared.tree.Stmt.TheBlock.shown-the_row-Arm-2 Rattle.smv_core.specs.declared.tree.Stmt.TheBlock.hidden-the_row-Stmt-0 Rattle.smv_core.specs.declared.tree.Stmt.TheBlock.hidden-the_row-Stmt-1 Rattle.smv_core.specs.declared.tree.Stmt.TheBlock.hidden-the_row-Arm-2 Rattle.smv_core.specs.declared.tree.Stmt.TheBlock.shape-the_row-Stmt-0 Rattle.smv_core.specs.declared.tree.Stmt.TheBlock.shape-the_row-Stmt-1 Rattle.smv_core.specs.declared.tree.Stmt.TheBlock.shape-the_row-Arm-2 Rattle.smv_core.specs.declared.tree.Item.TheBlock.shown-the_row-Item-0 Rattle.smv_core.specs.declared.tree.Item.TheBlock.shown-the_row-Item-1 Rattle.smv_core.specs.declared.tree.Item.TheBlock.hidden-the_row-Item-0 Rattle.smv_core.specs.declared.tree.Item.TheBlock.hidden-the_row-Item-1 Rattle.smv_core.specs.declared.tree.Item.TheBlock.shape-the_row-Item-0 Rattle.smv_core.specs.declared.tree.Item.TheBlock.shape-the_row-Item-1 denote.Hole.Carrier.roll denote.Hole.Carrier.out denote.Hole.Carrier.shown denote.Hole.Carrier.hidden
computing = tt

-- ---- types

abbrev pub placeless_field : Field → Field
placeless_field f = roll-Field (record { names = map placeless_word (out-Field f).names; of = placeless_type (out-Field f).of; at = 0 })

struct-list : (shape : _) (row : _) → Struct (items-the_row-Field _ row) ≡ Struct' shape row
unfolding computing
struct-list shape row = sym (ap Struct (items_shown-the_row-Field-1 shape row)) ∙ roll-out-TypeExpr (Struct' shape row)

fields-row : (n : _) (row : Row_of-Field n) → items-the_row-Field n (placeless_fields row) ≡ map placeless_field (items-the_row-Field n row)
unfolding placeless_type computing
fields-row n end_of-Field = refl
fields-row n (more_of-Field names of at rest) = ap (λ l. roll-Field (record { names = map placeless_word names; of = placeless_type of; at = 0 }) ∷ l) (fields-row _ rest)

abbrev fields_in : TypeExpr → (n : Count) × Row_of-Field n
fields_in (Struct' shape row) = (_, row)
fields_in _ = (_, end_of-Field)

pub placeless-Struct : (fields : List Field) → placeless_type (Struct fields) ≡ Struct (map placeless_field fields)
unfolding placeless_type
placeless-Struct fields = sym (struct-list _ (placeless_fields (fields_in (Struct fields)).1)) ∙ ap Struct (fields-row _ (fields_in (Struct fields)).1 ∙ ap (map placeless_field) (items_hidden-the_row-Field-1 fields))

pub placeless-Enum : (names : List Word) (at : ℕ) → placeless_type (Enum names at) ≡ Enum (map placeless_word names) 0
unfolding placeless_type
placeless-Enum names at = refl

pub placeless-Array : (index of : TypeExpr) → placeless_type (Array index of) ≡ Array (placeless_type index) (placeless_type of)
unfolding placeless_type computing
placeless-Array index of = refl

-- ---- statements

abbrev pub placeless_arm : Arm → Arm
placeless_arm a = roll-Arm (record { labels = map placeless (out-Arm a).labels; body = placeless_stmt (out-Arm a).body })

block-list : (shape : _) (row : _) → Block (items-the_row-Stmt _ row) ≡ Block' shape row
unfolding computing
block-list shape row = sym (ap Block (items_shown-the_row-Stmt-0 shape row)) ∙ roll-out-Stmt (Block' shape row)

switch-none : (on : Expr) (shape : _) (row : _) (at : ℕ) → Switch on (items-the_row-Arm _ row) None at ≡ Switch' on shape row None' at
unfolding computing
switch-none on shape row at = sym (ap (λ l. Switch on l None at) (items_shown-the_row-Arm-2 shape row)) ∙ roll-out-Stmt (Switch' on shape row None' at)

switch-some : (on : Expr) (shape : _) (row : _) (box : _) (y : Stmt) (at : ℕ) → Switch on (items-the_row-Arm _ row) (Some y) at ≡ Switch' on shape row (Some' box (more_of-Stmt y end_of-Stmt)) at
unfolding computing
switch-some on shape row box y at = sym (ap (λ l. Switch on l (Some y) at) (items_shown-the_row-Arm-2 shape row)) ∙ roll-out-Stmt (Switch' on shape row (Some' box (more_of-Stmt y end_of-Stmt)) at)

stmts-row : (n : _) (row : Row_of-Stmt n) → items-the_row-Stmt n (placeless_stmts row) ≡ map placeless_stmt (items-the_row-Stmt n row)
unfolding placeless_stmt
stmts-row n end_of-Stmt = refl
stmts-row n (more_of-Stmt x rest) = ap (λ l. placeless_stmt x ∷ l) (stmts-row _ rest)

arms-row : (n : _) (row : Row_of-Arm n) → items-the_row-Arm n (placeless_arms row) ≡ map placeless_arm (items-the_row-Arm n row)
unfolding placeless_stmt computing
arms-row n end_of-Arm = refl
arms-row n (more_of-Arm labels body rest) = ap (λ l. roll-Arm (record { labels = map placeless labels; body = placeless_stmt body }) ∷ l) (arms-row _ rest)

abbrev stmts_in : Stmt → (n : Count) × Row_of-Stmt n
stmts_in (Block' shape row) = (_, row)
stmts_in _ = (_, end_of-Stmt)

abbrev arms_in : Stmt → (n : Count) × Row_of-Arm n
arms_in (Switch' on shape row other at) = (_, row)
arms_in _ = (_, end_of-Arm)

pub placeless-Block : (parts : List Stmt) → placeless_stmt (Block parts) ≡ Block (map placeless_stmt parts)
unfolding placeless_stmt
placeless-Block parts = sym (block-list _ (placeless_stmts (stmts_in (Block parts)).1)) ∙ ap Block (stmts-row _ (stmts_in (Block parts)).1 ∙ ap (map placeless_stmt) (items_hidden-the_row-Stmt-0 parts))

pub placeless-Switch_none : (on : Expr) (arms : List Arm) (at : ℕ) → placeless_stmt (Switch on arms None at) ≡ Switch (placeless on) (map placeless_arm arms) None 0
unfolding placeless_stmt
placeless-Switch_none on arms at =
    let row = arms_in (Switch on arms None at) in
    sym (switch-none (placeless on) _ (placeless_arms row.1) 0) ∙ ap (λ l. Switch (placeless on) l None 0) (arms-row _ row.1 ∙ ap (map placeless_arm) (items_hidden-the_row-Arm-2 arms))

pub placeless-Switch_some : (on : Expr) (arms : List Arm) (y : Stmt) (at : ℕ) → placeless_stmt (Switch on arms (Some y) at) ≡ Switch (placeless on) (map placeless_arm arms) (Some (placeless_stmt y)) 0
unfolding placeless_stmt Rattle.smv_core.specs.declared.tree.Stmt.TheBlock.hidden-the_row-Stmt-1 Rattle.smv_core.specs.declared.tree.Stmt.TheBlock.shape-the_row-Stmt-1 denote.Hole.Carrier.hidden
placeless-Switch_some on arms y at =
    let row = arms_in (Switch on arms (Some y) at) in
    sym (switch-some (placeless on) _ (placeless_arms row.1) _ (placeless_stmt y) 0) ∙ ap (λ l. Switch (placeless on) l (Some (placeless_stmt y)) 0) (arms-row _ row.1 ∙ ap (map placeless_arm) (items_hidden-the_row-Arm-2 arms))

pub placeless-Assign : (kind : Kind) (left : Path) (value : Expr) (at : ℕ) → placeless_stmt (Assign kind left value at) ≡ Assign kind (placeless_path left) (placeless value) 0
unfolding placeless_stmt computing
placeless-Assign kind left value at = refl

pub placeless-If_alone : (c : Expr) (x : Stmt) (at : ℕ) → placeless_stmt (If c x None at) ≡ If (placeless c) (placeless_stmt x) None 0
unfolding placeless_stmt computing
placeless-If_alone c x at = refl

pub placeless-If_else : (c : Expr) (x y : Stmt) (at : ℕ) → placeless_stmt (If c x (Some y) at) ≡ If (placeless c) (placeless_stmt x) (Some (placeless_stmt y)) 0
unfolding placeless_stmt computing
placeless-If_else c x y at = refl

pub placeless-Default : (x y : Stmt) (at : ℕ) → placeless_stmt (Default x y at) ≡ Default (placeless_stmt x) (placeless_stmt y) 0
unfolding placeless_stmt computing
placeless-Default x y at = refl

pub placeless-For : (v : Word) (from to : ℕ) (closed : Bool) (step : ℕ) (body : Stmt) (at : ℕ) → placeless_stmt (For v from to closed step body at) ≡ For (placeless_word v) from to closed step (placeless_stmt body) 0
unfolding placeless_stmt computing
placeless-For v from to closed step body at = refl

pub placeless-Forall : (v : Word) (over : TypeExpr) (body : Stmt) (at : ℕ) → placeless_stmt (Forall v over body at) ≡ Forall (placeless_word v) (placeless_type over) (placeless_stmt body) 0
unfolding placeless_stmt computing
placeless-Forall v over body at = refl

-- ---- which end in an open `if`

pub if-alone : (c : Expr) (x : Stmt) (at : ℕ) → ends_in_open_if (stmt.If c x None at) ≡ true
if-alone c x at = ap ends_in_open_if (sym (stmt.rolls-If c x None at)) ∙ fold-roll-Stmt Bool Bool open_at (λ arm. false) (Stmt-F.If c x None at)

pub if-else : (c : Expr) (x y : Stmt) (at : ℕ) → ends_in_open_if (stmt.If c x (Some y) at) ≡ ends_in_open_if y
if-else c x y at = ap ends_in_open_if (sym (stmt.rolls-If c x (Some y) at)) ∙ fold-roll-Stmt Bool Bool open_at (λ arm. false) (Stmt-F.If c x (Some y) at)

pub default-open : (x y : Stmt) (at : ℕ) → ends_in_open_if (stmt.Default x y at) ≡ ends_in_open_if y
default-open x y at = ap ends_in_open_if (sym (stmt.rolls-Default x y at)) ∙ fold-roll-Stmt Bool Bool open_at (λ arm. false) (Stmt-F.Default x y at)

pub for-open : (v : Word) (from to : ℕ) (closed : Bool) (step : ℕ) (body : Stmt) (at : ℕ) → ends_in_open_if (stmt.For v from to closed step body at) ≡ ends_in_open_if body
for-open v from to closed step body at = ap ends_in_open_if (sym (stmt.rolls-For v from to closed step body at)) ∙ fold-roll-Stmt Bool Bool open_at (λ arm. false) (Stmt-F.For v from to closed step body at)

pub forall-open : (v : Word) (over : TypeExpr) (body : Stmt) (at : ℕ) → ends_in_open_if (stmt.Forall v over body at) ≡ ends_in_open_if body
forall-open v over body at = ap ends_in_open_if (sym (stmt.rolls-Forall v over body at)) ∙ fold-roll-Stmt Bool Bool open_at (λ arm. false) (Stmt-F.Forall v over body at)

pub assign-closed : (k : Kind) (p : Path) (x : Expr) (at : ℕ) → ends_in_open_if (stmt.Assign k p x at) ≡ false
assign-closed k p x at = ap ends_in_open_if (sym (stmt.rolls-Assign k p x at)) ∙ fold-roll-Stmt Bool Bool open_at (λ arm. false) (Stmt-F.Assign k p x at)

pub block-closed : (parts : List Stmt) → ends_in_open_if (stmt.Block parts) ≡ false
block-closed parts = ap ends_in_open_if (sym (stmt.rolls-Block parts)) ∙ fold-roll-Stmt Bool Bool open_at (λ arm. false) (Stmt-F.Block parts)

pub switch-closed : (x : Expr) (arms : List Arm) (other : Option Stmt) (at : ℕ) → ends_in_open_if (stmt.Switch x arms other at) ≡ false
switch-closed x arms other at = ap ends_in_open_if (sym (stmt.rolls-Switch x arms other at)) ∙ fold-roll-Stmt Bool Bool open_at (λ arm. false) (Stmt-F.Switch x arms other at)

-- ---- items

pub items-list : (shape : _) (row : _) → item.Block (items-the_row-Item _ row) ≡ item.Block' shape row
unfolding computing
items-list shape row = sym (ap item.Block (items_shown-the_row-Item-1 shape row)) ∙ roll-out-Item (item.Block' shape row)

pub items-row : (n : _) (row : Row_of-Item n) → items-the_row-Item n (placeless_items row) ≡ map placeless_item (items-the_row-Item n row)
unfolding placeless_item
items-row n end_of-Item = refl
items-row n (more_of-Item x rest) = ap (λ l. placeless_item x ∷ l) (items-row _ rest)

abbrev pub items_in : Item → (n : Count) × Row_of-Item n
items_in (item.Block' shape row) = (_, row)
items_in _ = (_, end_of-Item)

pub placeless-item_Block : (items : List Item) → placeless_item (item.Block items) ≡ item.Block (map placeless_item items)
unfolding placeless_item
placeless-item_Block items = sym (items-list _ (placeless_items (items_in (item.Block items)).1)) ∙ ap item.Block (items-row _ (items_in (item.Block items)).1 ∙ ap (map placeless_item) (items_hidden-the_row-Item-1 items))

pub placeless-item_Forall : (v : Word) (over : TypeExpr) (body : Item) (at : ℕ) → placeless_item (item.Forall v over body at) ≡ item.Forall (placeless_word v) (placeless_type over) (placeless_item body) 0
unfolding placeless_item computing
placeless-item_Forall v over body at = refl

pub placeless-Declare : (role : Role) (names : List Word) (of : TypeExpr) (at : ℕ) → placeless_item (Declare role names of at) ≡ Declare role (map placeless_word names) (placeless_type of) 0
unfolding placeless_item computing
placeless-Declare role names of at = refl

pub placeless-Instance : (names : List Word) (m : Word) (args : List Expr) (at : ℕ) → placeless_item (Instance names m args at) ≡ Instance (map placeless_word names) (placeless_word m) (map placeless args) 0
unfolding placeless_item computing
placeless-Instance names m args at = refl

pub placeless-Layer : (word : Word) (body : List Stmt) (at : ℕ) → placeless_item (Layer word body at) ≡ Layer (placeless_word word) (map placeless_stmt body) 0
unfolding placeless_item computing
placeless-Layer word body at = refl

pub placeless-Claim : (word : Word) (vars : List Word) (body : Expr) (at : ℕ) → placeless_item (Claim word vars body at) ≡ Claim (placeless_word word) (map placeless_word vars) (placeless body) 0
unfolding placeless_item computing
placeless-Claim word vars body at = refl

pub placeless-Split : (word : Word) (vars : List Word) (of : Ref) (pairs : List Pair) (at : ℕ) → placeless_item (Split word vars of pairs at) ≡ Using [] [] 0
unfolding placeless_item computing
placeless-Split word vars of pairs at = refl

pub placeless-Using : (us : List Use) (proves : List Ref) (at : ℕ) → placeless_item (Using us proves at) ≡ Using [] [] 0
unfolding placeless_item computing
placeless-Using us proves at = refl

pub placeless-Act : (act : Stmt) → placeless_item (Act act) ≡ Act (placeless_stmt act)
unfolding placeless_item computing
placeless-Act act = refl
