-- Trees that are made of trees within a number are within it.
use Rattle.std.proofs.Common.{◌≤◌, ℕ, Bool, List, Option, Some, None, sym, subst}
use Rattle.std.specs.List.{AllByRecursion}
use Rattle.smv_core.specs.declared.tree.Word.{Word}
use Rattle.smv_core.specs.declared.tree.Op.{Op}
use Rattle.smv_core.specs.declared.tree.Kind.{Kind}
use Rattle.smv_core.specs.declared.tree.Path.{Path, out-Path}
use Rattle.smv_core.specs.declared.tree.Part.{Field, At}
use Rattle.smv_core.specs.declared.tree.Signed.{Signed, roll-Signed, out-Signed}
use Rattle.smv_core.specs.declared.tree.Member.{Member, One, Span as SpanOf}
use Rattle.smv_core.specs.declared.tree.Arm.{Arm, roll-Arm, out-Arm}
use Rattle.smv_core.specs.declared.tree.Field.{Field as FieldOf, roll-Field, out-Field}
use Rattle.smv_core.specs.declared.tree.TypeExpr.{TypeExpr, Array, Struct, Struct', Row_of-Field, end_of-Field, more_of-Field, items-the_row-Field, items_hidden-the_row-Field-1}
use Rattle.smv_core.specs.declared.tree.Expr.{Expr, Signal, Signal', Not, And, And', Or, Or', Implies, Implies', Iff, Compare, Within, Sum, Sum', Modulo, Choose, All, Any, List as ListOf, List', Each}
use Rattle.smv_core.specs.declared.tree.Expr.{Row_of-Expr, end_of-Expr, more_of-Expr, Row_of-Part, end_of-Part, more_of-Part, Row_of-Member, end_of-Member, more_of-Member, Row_of-Signed, end_of-Signed, more_of-Signed}
use Rattle.smv_core.specs.declared.tree.Expr.{items-the_row-Part, items-the_row-Expr, items-the_row-Member, items-the_row-Signed, items_hidden-the_row-Part-0, items_hidden-the_row-Expr-2, items_hidden-the_row-Member-4, items_hidden-the_row-Signed-3}
use Rattle.smv_core.specs.declared.tree.Stmt.{Stmt, Assign, Block, Block', If, Switch, Switch', Default, For, Forall, Held-Stmt-If-2, None', Row_of-Stmt, end_of-Stmt, more_of-Stmt, Row_of-Arm, end_of-Arm, more_of-Arm}
use Rattle.smv_core.specs.declared.tree.Stmt.{items-the_row-Stmt, items-the_row-Arm, items_hidden-the_row-Stmt-0, items_hidden-the_row-Arm-2}
use Rattle.smv_core.specs.declared.tree.Item as item
use Rattle.smv_core.specs.declared.tree.Item.{Item, Row_of-Item, end_of-Item, more_of-Item, items-the_row-Item, items_hidden-the_row-Item-1}
use mathlib.Core.Former.{Count}
use Rattle.smv_mentions.proofs.Computing.{computing}
use Rattle.law_fault_places.specs.TreePlaces.{WordIsWithin, WordsAreWithin, TypeIsWithin, FieldsAreWithin, ExprIsWithin, RowIsWithin, PartsAreWithin, TermsAreWithin, MembersAreWithin, ExprsAreWithin, PartIsWithin, PathIsWithin, StatementIsWithin, StatementsAreWithin, BranchIsWithin, ArmsAreWithin, ItemIsWithin, ItemsAreWithin}

-- ---- rows and boxes

abbrev fields_in : TypeExpr → (n : Count) × Row_of-Field n
fields_in (Struct' shape row) = (_, row)
fields_in _ = (_, end_of-Field)

abbrev exprs_in : Expr → (n : Count) × Row_of-Expr n
exprs_in (And' shape row) = (_, row)
exprs_in (Or' shape row) = (_, row)
exprs_in (Implies' shape row) = (_, row)
exprs_in _ = (_, end_of-Expr)

abbrev parts_in : Expr → (n : Count) × Row_of-Part n
parts_in (Signal' shape row at) = (_, row)
parts_in _ = (_, end_of-Part)

abbrev members_in : Expr → (n : Count) × Row_of-Member n
members_in (List' shape row at) = (_, row)
members_in _ = (_, end_of-Member)

abbrev terms_in : Expr → (n : Count) × Row_of-Signed n
terms_in (Sum' f first shape row) = (_, row)
terms_in _ = (_, end_of-Signed)

abbrev stmts_in : Stmt → (n : Count) × Row_of-Stmt n
stmts_in (Block' shape row) = (_, row)
stmts_in _ = (_, end_of-Stmt)

abbrev arms_in : Stmt → (n : Count) × Row_of-Arm n
arms_in (Switch' on shape row other at) = (_, row)
arms_in _ = (_, end_of-Arm)

abbrev other_in : Stmt → Held-Stmt-If-2
other_in (Switch' on shape row other at) = other
other_in _ = None'

abbrev items_in : Item → (n : Count) × Row_of-Item n
items_in (item.Block' shape row) = (_, row)
items_in _ = (_, end_of-Item)

module _ (n : ℕ) where
  -- ---- types

  abbrev pub FieldIsWithin : FieldOf → Type 0
  FieldIsWithin field = WordsAreWithin n (out-Field field).names × TypeIsWithin n (out-Field field).of × ((out-Field field).at ≤ n)

  fields-row : (k : _) (row : Row_of-Field k) → AllByRecursion FieldIsWithin (items-the_row-Field k row) → FieldsAreWithin n row
  unfolding computing
  fields-row k end_of-Field h = tt
  fields-row k (more_of-Field names of at rest) h = (h.0.0, h.0.1, h.0.2, fields-row _ rest h.1)

  pub within-Struct : (fields : List FieldOf) → AllByRecursion FieldIsWithin fields → TypeIsWithin n (Struct fields)
  within-Struct fields h = fields-row (fields_in (Struct fields)).0 (fields_in (Struct fields)).1 (subst (AllByRecursion FieldIsWithin) (sym (items_hidden-the_row-Field-1 fields)) h)

  pub within-Array : (index of : TypeExpr) → TypeIsWithin n index → TypeIsWithin n of → TypeIsWithin n (Array index of)
  unfolding computing
  within-Array index of h g = (h, g)

  pub within-field : (names : List Word) (of : TypeExpr) (at : ℕ) → WordsAreWithin n names → TypeIsWithin n of → at ≤ n → FieldIsWithin (roll-Field (record { names = names; of = of; at = at }))
  unfolding computing
  within-field names of at h g a = (h, g, a)

  -- ---- expressions

  abbrev pub MemberIsWithin : Member → Type 0
  MemberIsWithin (One e) = ExprIsWithin n e
  MemberIsWithin (SpanOf span at) = at ≤ n

  abbrev pub TermIsWithin : Signed → Type 0
  TermIsWithin x = ExprIsWithin n (out-Signed x).of

  exprs-row : (k : _) (row : Row_of-Expr k) → ExprsAreWithin n (items-the_row-Expr k row) → RowIsWithin n row
  exprs-row k end_of-Expr h = tt
  exprs-row k (more_of-Expr e rest) h = (h.0, exprs-row _ rest h.1)

  parts-row : (k : _) (row : Row_of-Part k) → AllByRecursion (PartIsWithin n) (items-the_row-Part k row) → PartsAreWithin n row
  unfolding computing
  parts-row k end_of-Part h = tt
  parts-row k (more_of-Part (Field word) rest) h = (h.0, parts-row _ rest h.1)
  parts-row k (more_of-Part (At index) rest) h = (h.0, parts-row _ rest h.1)

  terms-row : (k : _) (row : Row_of-Signed k) → AllByRecursion TermIsWithin (items-the_row-Signed k row) → TermsAreWithin n row
  unfolding computing
  terms-row k end_of-Signed h = tt
  terms-row k (more_of-Signed minus e rest) h = (h.0, terms-row _ rest h.1)

  members-row : (k : _) (row : Row_of-Member k) → AllByRecursion MemberIsWithin (items-the_row-Member k row) → MembersAreWithin n row
  unfolding computing
  members-row k end_of-Member h = tt
  members-row k (more_of-Member (One e) rest) h = (h.0, members-row _ rest h.1)
  members-row k (more_of-Member (SpanOf span at) rest) h = (h.0, members-row _ rest h.1)

  -- and the other way for a path
  pub row-parts : (k : _) (row : Row_of-Part k) → PartsAreWithin n row → AllByRecursion (PartIsWithin n) (items-the_row-Part k row)
  unfolding computing
  row-parts k end_of-Part h = tt
  row-parts k (more_of-Part (Field word) rest) h = (h.0, row-parts _ rest h.1)
  row-parts k (more_of-Part (At index) rest) h = (h.0, row-parts _ rest h.1)

  pub within-And : (es : List Expr) → ExprsAreWithin n es → ExprIsWithin n (And es)
  within-And es h = exprs-row (exprs_in (And es)).0 (exprs_in (And es)).1 (subst (ExprsAreWithin n) (sym (items_hidden-the_row-Expr-2 es)) h)

  pub within-Or : (es : List Expr) → ExprsAreWithin n es → ExprIsWithin n (Or es)
  within-Or es h = exprs-row (exprs_in (Or es)).0 (exprs_in (Or es)).1 (subst (ExprsAreWithin n) (sym (items_hidden-the_row-Expr-2 es)) h)

  pub within-Implies : (es : List Expr) → ExprsAreWithin n es → ExprIsWithin n (Implies es)
  within-Implies es h = exprs-row (exprs_in (Implies es)).0 (exprs_in (Implies es)).1 (subst (ExprsAreWithin n) (sym (items_hidden-the_row-Expr-2 es)) h)

  pub within-List : (members : List Member) (at : ℕ) → AllByRecursion MemberIsWithin members → at ≤ n → ExprIsWithin n (ListOf members at)
  within-List members at h a = (a, members-row (members_in (ListOf members at)).0 (members_in (ListOf members at)).1 (subst (AllByRecursion MemberIsWithin) (sym (items_hidden-the_row-Member-4 members)) h))

  pub within-Signal : (path : Path) → PathIsWithin n path → ExprIsWithin n (Signal path)
  within-Signal path h = (h.0, parts-row (parts_in (Signal path)).0 (parts_in (Signal path)).1 (subst (AllByRecursion (PartIsWithin n)) (sym (items_hidden-the_row-Part-0 (out-Path path).parts)) h.1))

  pub within-Sum : (first : Expr) (more : List Signed) → ExprIsWithin n first → AllByRecursion TermIsWithin more → ExprIsWithin n (Sum first more)
  unfolding Rattle.smv_core.specs.declared.tree.Expr.TheBlock.hidden-the_row-Expr-1 Rattle.smv_core.specs.declared.tree.Expr.TheBlock.shape-the_row-Expr-1 denote.Hole.Carrier.hidden
  within-Sum first more e h = (e, terms-row (terms_in (Sum first more)).0 (terms_in (Sum first more)).1 (subst (AllByRecursion TermIsWithin) (sym (items_hidden-the_row-Signed-3 more)) h))

  pub within-Not : (e : Expr) (at : ℕ) → at ≤ n → ExprIsWithin n e → ExprIsWithin n (Not e at)
  unfolding computing
  within-Not e at a h = (a, h)

  pub within-Modulo : (e : Expr) (by at : ℕ) → at ≤ n → ExprIsWithin n e → ExprIsWithin n (Modulo e by at)
  unfolding computing
  within-Modulo e by at a h = (a, h)

  pub within-Iff : (x y : Expr) → ExprIsWithin n x → ExprIsWithin n y → ExprIsWithin n (Iff x y)
  unfolding computing
  within-Iff x y h g = (h, g)

  pub within-Compare : (op : Op) (x y : Expr) → ExprIsWithin n x → ExprIsWithin n y → ExprIsWithin n (Compare op x y)
  unfolding computing
  within-Compare op x y h g = (h, g)

  pub within-Within : (x y : Expr) → ExprIsWithin n x → ExprIsWithin n y → ExprIsWithin n (Within x y)
  unfolding computing
  within-Within x y h g = (h, g)

  pub within-Choose : (c x y : Expr) → ExprIsWithin n c → ExprIsWithin n x → ExprIsWithin n y → ExprIsWithin n (Choose c x y)
  unfolding computing
  within-Choose c x y f g h = (f, g, h)

  pub within-All : (body : Expr) (var : Word) (over : TypeExpr) (at : ℕ) → at ≤ n → WordIsWithin n var → TypeIsWithin n over → ExprIsWithin n body → ExprIsWithin n (All body var over at)
  unfolding computing
  within-All body var over at a v o h = (a, v, o, h)

  pub within-Any : (body : Expr) (var : Word) (over : TypeExpr) (at : ℕ) → at ≤ n → WordIsWithin n var → TypeIsWithin n over → ExprIsWithin n body → ExprIsWithin n (Any body var over at)
  unfolding computing
  within-Any body var over at a v o h = (a, v, o, h)

  abbrev pub IsWithinOrNone : Option Expr → Type 0
  IsWithinOrNone None = Unit {0}
  IsWithinOrNone (Some e) = ExprIsWithin n e

  pub within-Each : (var : Word) (over : TypeExpr) (cond : Option Expr) (at : ℕ) → at ≤ n → WordIsWithin n var → TypeIsWithin n over → IsWithinOrNone cond → ExprIsWithin n (Each var over cond at)
  unfolding computing
  within-Each var over None at a v o h = (a, v, o, tt)
  within-Each var over (Some cond) at a v o h = (a, v, o, h)

  pub within-term : (minus : Bool) (e : Expr) → ExprIsWithin n e → TermIsWithin (roll-Signed (record { minus = minus; of = e }))
  unfolding computing
  within-term minus e h = h

  -- ---- statements

  abbrev pub ArmIsWithin : Arm → Type 0
  ArmIsWithin x = ExprsAreWithin n (out-Arm x).labels × StatementIsWithin n (out-Arm x).body

  abbrev pub OtherIsWithin : Option Stmt → Type 0
  OtherIsWithin None = Unit {0}
  OtherIsWithin (Some act) = StatementIsWithin n act

  stmts-row : (k : _) (row : Row_of-Stmt k) → AllByRecursion (StatementIsWithin n) (items-the_row-Stmt k row) → StatementsAreWithin n row
  stmts-row k end_of-Stmt h = tt
  stmts-row k (more_of-Stmt part rest) h = (h.0, stmts-row _ rest h.1)

  arms-row : (k : _) (row : Row_of-Arm k) → AllByRecursion ArmIsWithin (items-the_row-Arm k row) → ArmsAreWithin n row
  unfolding computing
  arms-row k end_of-Arm h = tt
  arms-row k (more_of-Arm labels body rest) h = (h.0.0, h.0.1, arms-row _ rest h.1)

  pub within-Assign : (kind : Kind) (left : Path) (value : Expr) (at : ℕ) → at ≤ n → PathIsWithin n left → ExprIsWithin n value → StatementIsWithin n (Assign kind left value at)
  within-Assign kind left value at a h g = (a, h, g)

  pub within-Block : (parts : List Stmt) → AllByRecursion (StatementIsWithin n) parts → StatementIsWithin n (Block parts)
  within-Block parts h = stmts-row (stmts_in (Block parts)).0 (stmts_in (Block parts)).1 (subst (AllByRecursion (StatementIsWithin n)) (sym (items_hidden-the_row-Stmt-0 parts)) h)

  pub within-If : (cond : Expr) (x : Stmt) (y : Option Stmt) (at : ℕ) → at ≤ n → ExprIsWithin n cond → StatementIsWithin n x → OtherIsWithin y → StatementIsWithin n (If cond x y at)
  unfolding computing
  within-If cond x None at a c h g = (a, c, h, tt)
  within-If cond x (Some y) at a c h g = (a, c, h, g)

  other-held : (on : Expr) (arms : List Arm) (y : Option Stmt) (at : ℕ) → OtherIsWithin y → BranchIsWithin n (other_in (Switch on arms y at))
  unfolding computing
  other-held on arms None at h = tt
  other-held on arms (Some y) at h = h

  pub within-Switch : (on : Expr) (arms : List Arm) (y : Option Stmt) (at : ℕ) → at ≤ n → ExprIsWithin n on → AllByRecursion ArmIsWithin arms → OtherIsWithin y → StatementIsWithin n (Switch on arms y at)
  within-Switch on arms y at a c h g = (
    a,
    c,
    arms-row (arms_in (Switch on arms y at)).0 (arms_in (Switch on arms y at)).1 (subst (AllByRecursion ArmIsWithin) (sym (items_hidden-the_row-Arm-2 arms)) h),
    other-held on arms y at g,
  )

  pub within-Default : (x y : Stmt) (at : ℕ) → at ≤ n → StatementIsWithin n x → StatementIsWithin n y → StatementIsWithin n (Default x y at)
  unfolding computing
  within-Default x y at a h g = (a, h, g)

  pub within-For : (var : Word) (from to : ℕ) (closed : Bool) (step : ℕ) (body : Stmt) (at : ℕ) → at ≤ n → WordIsWithin n var → StatementIsWithin n body → StatementIsWithin n (For var from to closed step body at)
  unfolding computing
  within-For var from to closed step body at a v h = (a, v, h)

  pub within-Forall : (var : Word) (over : TypeExpr) (body : Stmt) (at : ℕ) → at ≤ n → WordIsWithin n var → TypeIsWithin n over → StatementIsWithin n body → StatementIsWithin n (Forall var over body at)
  unfolding computing
  within-Forall var over body at a v o h = (a, v, o, h)

  pub within-arm : (labels : List Expr) (body : Stmt) → ExprsAreWithin n labels → StatementIsWithin n body → ArmIsWithin (roll-Arm (record { labels = labels; body = body }))
  unfolding computing
  within-arm labels body h g = (h, g)

  -- ---- items

  items-row : (k : _) (row : Row_of-Item k) → AllByRecursion (ItemIsWithin n) (items-the_row-Item k row) → ItemsAreWithin n row
  items-row k end_of-Item h = tt
  items-row k (more_of-Item part rest) h = (h.0, items-row _ rest h.1)

  pub within_item-Block : (items : List Item) → AllByRecursion (ItemIsWithin n) items → ItemIsWithin n (item.Block items)
  within_item-Block items h = items-row (items_in (item.Block items)).0 (items_in (item.Block items)).1 (subst (AllByRecursion (ItemIsWithin n)) (sym (items_hidden-the_row-Item-1 items)) h)

  pub within_item-Forall : (var : Word) (over : TypeExpr) (body : Item) (at : ℕ) → at ≤ n → WordIsWithin n var → TypeIsWithin n over → ItemIsWithin n body → ItemIsWithin n (item.Forall var over body at)
  unfolding computing
  within_item-Forall var over body at a v o h = (a, v, o, h)
