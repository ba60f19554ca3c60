-- Trees that are made of shallow trees are shallow.
use Rattle.std.proofs.Common.{◌<◌, ℕ, suc, Bool, List, [], ◌∷◌, Option, Some, None, sym, subst}
use Rattle.std.specs.List.{AllByRecursion}
use Rattle.smv_core.specs.Walk.{indexes_of}
use Rattle.smv_core.specs.declared.tree.Word.{Word}
use Rattle.smv_core.specs.declared.tree.Op.{Op}
use Rattle.smv_core.specs.declared.tree.Kind.{Kind}
use Rattle.smv_core.specs.declared.tree.Path.{Path, out-Path}
use Rattle.smv_core.specs.declared.tree.Part.{Part, Field, At}
use Rattle.smv_core.specs.declared.tree.Signed.{Signed, roll-Signed, out-Signed}
use Rattle.smv_core.specs.declared.tree.Member.{Member, One, Span as SpanOf}
use Rattle.smv_core.specs.declared.tree.Arm.{Arm, roll-Arm, out-Arm}
use Rattle.smv_core.specs.declared.tree.TypeExpr.{TypeExpr}
use Rattle.smv_core.specs.declared.tree.Expr.{Expr, Signal, Not, And, Or, Implies, Iff, Compare, Within, Sum, Modulo, Choose, All, Any, List as ListOf, Each}
use Rattle.smv_core.specs.declared.tree.Expr.{Row_of-Expr, end_of-Expr, more_of-Expr, Row_of-Part, end_of-Part, more_of-Part, Row_of-Member, end_of-Member, more_of-Member, Row_of-Signed, end_of-Signed, more_of-Signed}
use Rattle.smv_core.specs.declared.tree.Expr.{items-the_row-Part, items-the_row-Expr, items-the_row-Member, items-the_row-Signed, items_hidden-the_row-Part-0, items_hidden-the_row-Expr-2, items_hidden-the_row-Member-4, items_hidden-the_row-Signed-3}
use Rattle.smv_core.specs.declared.tree.Stmt.{Stmt, Assign, Block, If, Switch, Default, For, Forall, Row_of-Stmt, end_of-Stmt, more_of-Stmt, Row_of-Arm, end_of-Arm, more_of-Arm}
use Rattle.smv_core.specs.declared.tree.Stmt.{items-the_row-Stmt, items-the_row-Arm, items_hidden-the_row-Stmt-0, items_hidden-the_row-Arm-2}
use Rattle.smv_core.specs.declared.tree.Item as item
use Rattle.smv_core.specs.declared.tree.Item.{Item, Row_of-Item, end_of-Item, more_of-Item, items-the_row-Item, items_hidden-the_row-Item-1}
use Rattle.smv_mentions.proofs.Computing.{computing}
use Rattle.law_designs.proofs.WrittenForms.{exprs_in, parts_in, members_in, terms_in, stmts_in, arms_in, other_in, items_in}
use Rattle.law_sound_texts.proofs.Shallow.{most, IsShallow, AreShallow, PartsAreShallow, IndexesAreShallow, TermsAreShallow, MembersAreShallow, StatementIsShallow, StatementsAreShallow, BranchIsShallow, ArmsAreShallow, InnerIsShallow, InnersAreShallow}

-- ---- rows and boxes

module _ (k : ℕ) where
  -- ---- expressions

  abbrev pub PartIsShallow : Part → Type 0
  PartIsShallow (Field word) = Unit {0}
  PartIsShallow (At index) = IsShallow k index

  abbrev pub PathIsShallow : Path → Type 0
  PathIsShallow path = AllByRecursion PartIsShallow (out-Path path).parts

  abbrev pub MemberIsShallow : Member → Type 0
  MemberIsShallow (One e) = IsShallow k e
  MemberIsShallow (SpanOf span at) = Unit {0}

  abbrev pub TermIsShallow : Signed → Type 0
  TermIsShallow x = IsShallow k (out-Signed x).of

  exprs-row : (n : _) (row : Row_of-Expr n) → AreShallow k (items-the_row-Expr n row) → PartsAreShallow k row
  exprs-row n end_of-Expr h = tt
  exprs-row n (more_of-Expr e rest) h = (h.0, exprs-row _ rest h.1)

  parts-row : (n : _) (row : Row_of-Part n) → AllByRecursion PartIsShallow (items-the_row-Part n row) → IndexesAreShallow k row
  unfolding computing
  parts-row n end_of-Part h = tt
  parts-row n (more_of-Part (Field word) rest) h = parts-row _ rest h.1
  parts-row n (more_of-Part (At index) rest) h = (h.0, parts-row _ rest h.1)

  terms-row : (n : _) (row : Row_of-Signed n) → AllByRecursion TermIsShallow (items-the_row-Signed n row) → TermsAreShallow k row
  unfolding computing
  terms-row n end_of-Signed h = tt
  terms-row n (more_of-Signed minus e rest) h = (h.0, terms-row _ rest h.1)

  members-row : (n : _) (row : Row_of-Member n) → AllByRecursion MemberIsShallow (items-the_row-Member n row) → MembersAreShallow k row
  unfolding computing
  members-row n end_of-Member h = tt
  members-row n (more_of-Member (One e) rest) h = (h.0, members-row _ rest h.1)
  members-row n (more_of-Member (SpanOf span at) rest) h = members-row _ rest h.1

  pub shallow-And : (es : List Expr) → AreShallow k es → IsShallow k (And es)
  shallow-And es h = exprs-row (exprs_in (And es)).0 (exprs_in (And es)).1 (subst (AreShallow k) (sym (items_hidden-the_row-Expr-2 es)) h)

  pub shallow-Or : (es : List Expr) → AreShallow k es → IsShallow k (Or es)
  shallow-Or es h = exprs-row (exprs_in (Or es)).0 (exprs_in (Or es)).1 (subst (AreShallow k) (sym (items_hidden-the_row-Expr-2 es)) h)

  pub shallow-Implies : (es : List Expr) → AreShallow k es → IsShallow k (Implies es)
  shallow-Implies es h = exprs-row (exprs_in (Implies es)).0 (exprs_in (Implies es)).1 (subst (AreShallow k) (sym (items_hidden-the_row-Expr-2 es)) h)

  pub shallow-List : (members : List Member) (at : ℕ) → AllByRecursion MemberIsShallow members → IsShallow k (ListOf members at)
  shallow-List members at h = members-row (members_in (ListOf members at)).0 (members_in (ListOf members at)).1 (subst (AllByRecursion MemberIsShallow) (sym (items_hidden-the_row-Member-4 members)) h)

  pub shallow-Signal : (path : Path) → PathIsShallow path → IsShallow k (Signal path)
  shallow-Signal path h = parts-row (parts_in (Signal path)).0 (parts_in (Signal path)).1 (subst (AllByRecursion PartIsShallow) (sym (items_hidden-the_row-Part-0 (out-Path path).parts)) h)

  pub shallow-Sum : (first : Expr) (more : List Signed) → IsShallow k first → AllByRecursion TermIsShallow more → IsShallow k (Sum first more)
  unfolding Rattle.smv_core.specs.declared.tree.Expr.TheBlock.hidden-the_row-Expr-1 Rattle.smv_core.specs.declared.tree.Expr.TheBlock.shape-the_row-Expr-1 denote.Hole.Carrier.hidden
  shallow-Sum first more e h = (e, terms-row (terms_in (Sum first more)).0 (terms_in (Sum first more)).1 (subst (AllByRecursion TermIsShallow) (sym (items_hidden-the_row-Signed-3 more)) h))

  pub shallow-Not : (e : Expr) (at : ℕ) → IsShallow k e → IsShallow k (Not e at)
  unfolding computing
  shallow-Not e at h = h

  pub shallow-Modulo : (e : Expr) (by at : ℕ) → IsShallow k e → IsShallow k (Modulo e by at)
  unfolding computing
  shallow-Modulo e by at h = h

  pub shallow-Iff : (x y : Expr) → IsShallow k x → IsShallow k y → IsShallow k (Iff x y)
  unfolding computing
  shallow-Iff x y h g = (h, g)

  pub shallow-Compare : (op : Op) (x y : Expr) → IsShallow k x → IsShallow k y → IsShallow k (Compare op x y)
  unfolding computing
  shallow-Compare op x y h g = (h, g)

  pub shallow-Within : (x y : Expr) → IsShallow k x → IsShallow k y → IsShallow k (Within x y)
  unfolding computing
  shallow-Within x y h g = (h, g)

  pub shallow-Choose : (c x y : Expr) → IsShallow k c → IsShallow k x → IsShallow k y → IsShallow k (Choose c x y)
  unfolding computing
  shallow-Choose c x y f g h = (f, g, h)

  pub shallow-All : (body : Expr) (var : Word) (over : TypeExpr) (at : ℕ) → k < most → IsShallow (suc k) body → IsShallow k (All body var over at)
  unfolding computing
  shallow-All body var over at h i = (h, i)

  pub shallow-Any : (body : Expr) (var : Word) (over : TypeExpr) (at : ℕ) → k < most → IsShallow (suc k) body → IsShallow k (Any body var over at)
  unfolding computing
  shallow-Any body var over at h i = (h, i)

  abbrev pub IsShallowOrNone : Option Expr → Type 0
  IsShallowOrNone None = Unit {0}
  IsShallowOrNone (Some e) = IsShallow (suc k) e

  pub shallow-Each : (var : Word) (over : TypeExpr) (cond : Option Expr) (at : ℕ) → k < most → IsShallowOrNone cond → IsShallow k (Each var over cond at)
  unfolding computing
  shallow-Each var over None at i h = (i, tt)
  shallow-Each var over (Some cond) at i h = (i, h)

  pub shallow-term : (minus : Bool) (e : Expr) → IsShallow k e → TermIsShallow (roll-Signed (record { minus = minus; of = e }))
  unfolding computing
  shallow-term minus e h = h

  pub indexes-of-parts : (parts : List Part) → AllByRecursion PartIsShallow parts → AreShallow k (indexes_of parts)
  indexes-of-parts [] h = tt
  indexes-of-parts (Field word ∷ parts) h = indexes-of-parts parts h.1
  indexes-of-parts (At index ∷ parts) h = (h.0, indexes-of-parts parts h.1)

  -- ---- statements

  abbrev pub ArmIsShallow : Arm → Type 0
  ArmIsShallow x = AreShallow k (out-Arm x).labels × StatementIsShallow k (out-Arm x).body

  abbrev pub OtherIsShallow : Option Stmt → Type 0
  OtherIsShallow None = Unit {0}
  OtherIsShallow (Some act) = StatementIsShallow k act

  stmts-row : (n : _) (row : Row_of-Stmt n) → AllByRecursion (StatementIsShallow k) (items-the_row-Stmt n row) → StatementsAreShallow k row
  stmts-row n end_of-Stmt h = tt
  stmts-row n (more_of-Stmt part rest) h = (h.0, stmts-row _ rest h.1)

  arms-row : (n : _) (row : Row_of-Arm n) → AllByRecursion ArmIsShallow (items-the_row-Arm n row) → ArmsAreShallow k row
  unfolding computing
  arms-row n end_of-Arm h = tt
  arms-row n (more_of-Arm labels body rest) h = (h.0.0, h.0.1, arms-row _ rest h.1)

  pub shallow-Assign : (kind : Kind) (left : Path) (value : Expr) (at : ℕ) → PathIsShallow left → IsShallow k value → StatementIsShallow k (Assign kind left value at)
  shallow-Assign kind left value at h g = (indexes-of-parts (out-Path left).parts h, g)

  pub shallow-Block : (parts : List Stmt) → AllByRecursion (StatementIsShallow k) parts → StatementIsShallow k (Block parts)
  shallow-Block parts h = stmts-row (stmts_in (Block parts)).0 (stmts_in (Block parts)).1 (subst (AllByRecursion (StatementIsShallow k)) (sym (items_hidden-the_row-Stmt-0 parts)) h)

  pub shallow-If : (cond : Expr) (x : Stmt) (y : Option Stmt) (at : ℕ) → IsShallow k cond → StatementIsShallow k x → OtherIsShallow y → StatementIsShallow k (If cond x y at)
  unfolding computing
  shallow-If cond x None at c h g = (c, h, tt)
  shallow-If cond x (Some y) at c h g = (c, h, g)

  other-held : (on : Expr) (arms : List Arm) (y : Option Stmt) (at : ℕ) → OtherIsShallow y → BranchIsShallow k (other_in (Switch on arms y at))
  unfolding computing
  other-held on arms None at h = tt
  other-held on arms (Some y) at h = h

  pub shallow-Switch : (on : Expr) (arms : List Arm) (y : Option Stmt) (at : ℕ) → IsShallow k on → AllByRecursion ArmIsShallow arms → OtherIsShallow y → StatementIsShallow k (Switch on arms y at)
  shallow-Switch on arms y at c h g = (
    c,
    arms-row (arms_in (Switch on arms y at)).0 (arms_in (Switch on arms y at)).1 (subst (AllByRecursion ArmIsShallow) (sym (items_hidden-the_row-Arm-2 arms)) h),
    other-held on arms y at g,
  )

  pub shallow-Default : (x y : Stmt) (at : ℕ) → StatementIsShallow k x → StatementIsShallow k y → StatementIsShallow k (Default x y at)
  unfolding computing
  shallow-Default x y at h g = (h, g)

  pub shallow-For : (var : Word) (from to : ℕ) (closed : Bool) (step : ℕ) (body : Stmt) (at : ℕ) → StatementIsShallow k body → StatementIsShallow k (For var from to closed step body at)
  unfolding computing
  shallow-For var from to closed step body at h = h

  pub shallow-Forall : (var : Word) (over : TypeExpr) (body : Stmt) (at : ℕ) → k < most → StatementIsShallow (suc k) body → StatementIsShallow k (Forall var over body at)
  unfolding computing
  shallow-Forall var over body at i h = (i, h)

  pub shallow-arm : (labels : List Expr) (body : Stmt) → AreShallow k labels → StatementIsShallow k body → ArmIsShallow (roll-Arm (record { labels = labels; body = body }))
  unfolding computing
  shallow-arm labels body h g = (h, g)

  -- ---- items

  items-row : (n : _) (row : Row_of-Item n) → AllByRecursion (InnerIsShallow k) (items-the_row-Item n row) → InnersAreShallow k row
  items-row n end_of-Item h = tt
  items-row n (more_of-Item part rest) h = (h.0, items-row _ rest h.1)

  pub shallow_inner-Block : (items : List Item) → AllByRecursion (InnerIsShallow k) items → InnerIsShallow k (item.Block items)
  shallow_inner-Block items h = items-row (items_in (item.Block items)).0 (items_in (item.Block items)).1 (subst (AllByRecursion (InnerIsShallow k)) (sym (items_hidden-the_row-Item-1 items)) h)

  pub shallow_inner-Forall : (var : Word) (over : TypeExpr) (body : Item) (at : ℕ) → k < most → InnerIsShallow (suc k) body → InnerIsShallow k (item.Forall var over body at)
  unfolding computing
  shallow_inner-Forall var over body at i h = (i, h)
