-- Trees that are made of trees as the grammar has them are so too.
use Rattle.std.proofs.Common.{ℕ, Bool, List, [], ◌∷◌, Option, Some, None, sym, subst}
use Rattle.std.specs.List.{AllByRecursion}
use Rattle.smv_core.specs.Walk.{indexes_of}
use Rattle.smv_core.specs.declared.tree.Word.{Word}
use Rattle.smv_core.specs.declared.tree.Op.{Op}
use Rattle.smv_core.specs.declared.tree.Kind.{Kind}
use Rattle.smv_core.specs.declared.tree.Path.{Path, out-Path}
use Rattle.smv_core.specs.declared.tree.Part.{Part, Field, At}
use Rattle.smv_core.specs.declared.tree.Signed.{Signed, roll-Signed, out-Signed}
use Rattle.smv_core.specs.declared.tree.Member.{Member, One, Span as SpanOf}
use Rattle.smv_core.specs.declared.tree.Arm.{Arm, roll-Arm, out-Arm}
use Rattle.smv_core.specs.declared.tree.Field.{Field as TreeField, roll-Field, out-Field}
use Rattle.smv_core.specs.declared.tree.TypeExpr.{TypeExpr, Array, Struct, Struct', Row_of-Field, end_of-Field, more_of-Field, items-the_row-Field, items_hidden-the_row-Field-1}
use Rattle.smv_core.specs.declared.tree.Expr.{Expr, Signal, Signal', Not, And, And', Or, Or', Implies, Implies', Iff, Compare, Within, Sum, Sum', Modulo, Choose, All, Any, List as ListOf, List', Each}
use Rattle.smv_core.specs.declared.tree.Expr.{Row_of-Expr, end_of-Expr, more_of-Expr, Row_of-Part, end_of-Part, more_of-Part, Row_of-Member, end_of-Member, more_of-Member, Row_of-Signed, end_of-Signed, more_of-Signed}
use Rattle.smv_core.specs.declared.tree.Expr.{items-the_row-Part, items-the_row-Expr, items-the_row-Member, items-the_row-Signed, items_hidden-the_row-Part-0, items_hidden-the_row-Expr-2, items_hidden-the_row-Member-4, items_hidden-the_row-Signed-3}
use Rattle.smv_core.specs.declared.tree.Stmt.{Stmt, Assign, Block, Block', If, Switch, Switch', Default, For, Forall, Held-Stmt-If-2, None', Row_of-Stmt, end_of-Stmt, more_of-Stmt, Row_of-Arm, end_of-Arm, more_of-Arm}
use Rattle.smv_core.specs.declared.tree.Stmt.{items-the_row-Stmt, items-the_row-Arm, items_hidden-the_row-Stmt-0, items_hidden-the_row-Arm-2}
use Rattle.smv_core.specs.declared.tree.Item as item
use Rattle.smv_core.specs.declared.tree.Item.{Item, Row_of-Item, end_of-Item, more_of-Item, items-the_row-Item, items_hidden-the_row-Item-1}
use mathlib.Core.Former.{Count}
use Rattle.smv_mentions.proofs.Computing.{computing}
use Rattle.law_designs.specs.Agreement.{IsIndexType}
use Rattle.law_designs.specs.Written.{HasOne, TypeIsWritten, FieldsAreWritten, IsSet, HasMember, IsWritten, AreWritten, PartsAreWritten, IndexesAreWritten, TermsAreWritten, MembersAreWritten, StatementIsWritten, StatementsAreWritten, BranchIsWritten, ArmsAreWritten, InnerIsWritten, InnersAreWritten}

-- ---- types

abbrev pub FieldIsWritten : TreeField → Type 0
FieldIsWritten x = TypeIsWritten (out-Field x).of

fields-row : (n : _) (row : Row_of-Field n) → AllByRecursion FieldIsWritten (items-the_row-Field n row) → FieldsAreWritten row
unfolding computing
fields-row n end_of-Field h = tt
fields-row n (more_of-Field names of at rest) h = (h.0, fields-row _ rest h.1)

abbrev fields_in : TypeExpr → (n : Count) × Row_of-Field n
fields_in (Struct' shape row) = (_, row)
fields_in _ = (_, end_of-Field)

pub written-Struct : (fields : List TreeField) → AllByRecursion FieldIsWritten fields → TypeIsWritten (Struct fields)
written-Struct fields h = fields-row (fields_in (Struct fields)).0 (fields_in (Struct fields)).1 (subst (AllByRecursion FieldIsWritten) (sym (items_hidden-the_row-Field-1 fields)) h)

pub written-Array : (index of : TypeExpr) → IsIndexType index → TypeIsWritten of → TypeIsWritten (Array index of)
unfolding computing
written-Array index of i h = (i, h)

pub written-field : (names : List Word) (of : TypeExpr) (at : ℕ) → TypeIsWritten of → FieldIsWritten (roll-Field (record { names = names; of = of; at = at }))
unfolding computing
written-field names of at h = h

-- ---- expressions

abbrev pub PartIsWritten : Part → Type 0
PartIsWritten (Field word) = Unit {0}
PartIsWritten (At index) = IsWritten index

abbrev pub PathIsWritten : Path → Type 0
PathIsWritten path = AllByRecursion PartIsWritten (out-Path path).parts

abbrev pub MemberIsWritten : Member → Type 0
MemberIsWritten (One e) = IsWritten e
MemberIsWritten (SpanOf span at) = Unit {0}

abbrev pub TermIsWritten : Signed → Type 0
TermIsWritten x = IsWritten (out-Signed x).of

exprs-row : (n : _) (row : Row_of-Expr n) → AreWritten (items-the_row-Expr n row) → PartsAreWritten row
exprs-row n end_of-Expr h = tt
exprs-row n (more_of-Expr e rest) h = (h.0, exprs-row _ rest h.1)

parts-row : (n : _) (row : Row_of-Part n) → AllByRecursion PartIsWritten (items-the_row-Part n row) → IndexesAreWritten row
unfolding computing
parts-row n end_of-Part h = tt
parts-row n (more_of-Part (Field word) rest) h = parts-row _ rest h.1
parts-row n (more_of-Part (At index) rest) h = (h.0, parts-row _ rest h.1)

terms-row : (n : _) (row : Row_of-Signed n) → AllByRecursion TermIsWritten (items-the_row-Signed n row) → TermsAreWritten row
unfolding computing
terms-row n end_of-Signed h = tt
terms-row n (more_of-Signed minus e rest) h = (h.0, terms-row _ rest h.1)

members-row : (n : _) (row : Row_of-Member n) → AllByRecursion MemberIsWritten (items-the_row-Member n row) → MembersAreWritten row
unfolding computing
members-row n end_of-Member h = tt
members-row n (more_of-Member (One e) rest) h = (h.0, members-row _ rest h.1)
members-row n (more_of-Member (SpanOf span at) rest) h = members-row _ rest h.1

one-member : (n : _) (row : Row_of-Member n) → HasOne (items-the_row-Member n row) → HasMember row
one-member n end_of-Member h = h
one-member n (more_of-Member member rest) h = tt

abbrev pub exprs_in : Expr → (n : Count) × Row_of-Expr n
exprs_in (And' shape row) = (_, row)
exprs_in (Or' shape row) = (_, row)
exprs_in (Implies' shape row) = (_, row)
exprs_in _ = (_, end_of-Expr)

abbrev pub parts_in : Expr → (n : Count) × Row_of-Part n
parts_in (Signal' shape row at) = (_, row)
parts_in _ = (_, end_of-Part)

abbrev pub members_in : Expr → (n : Count) × Row_of-Member n
members_in (List' shape row at) = (_, row)
members_in _ = (_, end_of-Member)

abbrev pub terms_in : Expr → (n : Count) × Row_of-Signed n
terms_in (Sum' f first shape row) = (_, row)
terms_in _ = (_, end_of-Signed)

pub written-And : (es : List Expr) → AreWritten es → IsWritten (And es)
written-And es h = exprs-row (exprs_in (And es)).0 (exprs_in (And es)).1 (subst AreWritten (sym (items_hidden-the_row-Expr-2 es)) h)

pub written-Or : (es : List Expr) → AreWritten es → IsWritten (Or es)
written-Or es h = exprs-row (exprs_in (Or es)).0 (exprs_in (Or es)).1 (subst AreWritten (sym (items_hidden-the_row-Expr-2 es)) h)

pub written-Implies : (es : List Expr) → AreWritten es → IsWritten (Implies es)
written-Implies es h = exprs-row (exprs_in (Implies es)).0 (exprs_in (Implies es)).1 (subst AreWritten (sym (items_hidden-the_row-Expr-2 es)) h)

pub written-List : (members : List Member) (at : ℕ) → HasOne members → AllByRecursion MemberIsWritten members → IsWritten (ListOf members at)
written-List members at one h =
    let row : (n : Count) × Row_of-Member n = members_in (ListOf members at) in
    (one-member row.0 row.1 (subst HasOne (sym (items_hidden-the_row-Member-4 members)) one), members-row row.0 row.1 (subst (AllByRecursion MemberIsWritten) (sym (items_hidden-the_row-Member-4 members)) h))

pub written-Signal : (path : Path) → PathIsWritten path → IsWritten (Signal path)
written-Signal path h = parts-row (parts_in (Signal path)).0 (parts_in (Signal path)).1 (subst (AllByRecursion PartIsWritten) (sym (items_hidden-the_row-Part-0 (out-Path path).parts)) h)

pub written-Sum : (first : Expr) (more : List Signed) → IsWritten first → AllByRecursion TermIsWritten more → IsWritten (Sum first more)
unfolding Rattle.smv_core.specs.declared.tree.Expr.TheBlock.hidden-the_row-Expr-1 Rattle.smv_core.specs.declared.tree.Expr.TheBlock.shape-the_row-Expr-1 denote.Hole.Carrier.hidden
written-Sum first more e h = (e, terms-row (terms_in (Sum first more)).0 (terms_in (Sum first more)).1 (subst (AllByRecursion TermIsWritten) (sym (items_hidden-the_row-Signed-3 more)) h))

pub written-Not : (e : Expr) (at : ℕ) → IsWritten e → IsWritten (Not e at)
unfolding computing
written-Not e at h = h

pub written-Modulo : (e : Expr) (by at : ℕ) → IsWritten e → IsWritten (Modulo e by at)
unfolding computing
written-Modulo e by at h = h

pub written-Iff : (x y : Expr) → IsWritten x → IsWritten y → IsWritten (Iff x y)
unfolding computing
written-Iff x y h k = (h, k)

pub written-Compare : (op : Op) (x y : Expr) → IsWritten x → IsWritten y → IsWritten (Compare op x y)
unfolding computing
written-Compare op x y h k = (h, k)

pub written-Within : (x y : Expr) → IsWritten x → IsWritten y → IsSet y → IsWritten (Within x y)
unfolding computing
written-Within x y h k s = (h, k, s)

pub written-Choose : (c x y : Expr) → IsWritten c → IsWritten x → IsWritten y → IsWritten (Choose c x y)
unfolding computing
written-Choose c x y g h k = (g, h, k)

pub written-All : (body : Expr) (var : Word) (over : TypeExpr) (at : ℕ) → IsWritten body → IsIndexType over → IsWritten (All body var over at)
unfolding computing
written-All body var over at h i = (h, i)

pub written-Any : (body : Expr) (var : Word) (over : TypeExpr) (at : ℕ) → IsWritten body → IsIndexType over → IsWritten (Any body var over at)
unfolding computing
written-Any body var over at h i = (h, i)

abbrev pub IsWrittenOrNone : Option Expr → Type 0
IsWrittenOrNone None = Unit {0}
IsWrittenOrNone (Some e) = IsWritten e

pub written-Each : (var : Word) (over : TypeExpr) (cond : Option Expr) (at : ℕ) → IsIndexType over → IsWrittenOrNone cond → IsWritten (Each var over cond at)
unfolding computing
written-Each var over None at i h = (tt, i)
written-Each var over (Some cond) at i h = (h, i)

pub set-List : (members : List Member) (at : ℕ) → IsSet (ListOf members at)
unfolding computing
set-List members at = tt

pub set-Each : (var : Word) (over : TypeExpr) (cond : Option Expr) (at : ℕ) → IsSet (Each var over cond at)
unfolding computing
set-Each var over None at = tt
set-Each var over (Some cond) at = tt

pub written-term : (minus : Bool) (e : Expr) → IsWritten e → TermIsWritten (roll-Signed (record { minus = minus; of = e }))
unfolding computing
written-term minus e h = h

pub indexes-of-parts : (parts : List Part) → AllByRecursion PartIsWritten parts → AreWritten (indexes_of parts)
indexes-of-parts [] h = tt
indexes-of-parts (Field word ∷ parts) h = indexes-of-parts parts h.1
indexes-of-parts (At index ∷ parts) h = (h.0, indexes-of-parts parts h.1)

-- ---- statements

abbrev pub ArmIsWritten : Arm → Type 0
ArmIsWritten x = AreWritten (out-Arm x).labels × StatementIsWritten (out-Arm x).body

abbrev pub OtherIsWritten : Option Stmt → Type 0
OtherIsWritten None = Unit {0}
OtherIsWritten (Some act) = StatementIsWritten act

stmts-row : (n : _) (row : Row_of-Stmt n) → AllByRecursion StatementIsWritten (items-the_row-Stmt n row) → StatementsAreWritten row
stmts-row n end_of-Stmt h = tt
stmts-row n (more_of-Stmt part rest) h = (h.0, stmts-row _ rest h.1)

arms-row : (n : _) (row : Row_of-Arm n) → AllByRecursion ArmIsWritten (items-the_row-Arm n row) → ArmsAreWritten row
unfolding computing
arms-row n end_of-Arm h = tt
arms-row n (more_of-Arm labels body rest) h = (h.0.0, h.0.1, arms-row _ rest h.1)

abbrev pub stmts_in : Stmt → (n : Count) × Row_of-Stmt n
stmts_in (Block' shape row) = (_, row)
stmts_in _ = (_, end_of-Stmt)

abbrev pub arms_in : Stmt → (n : Count) × Row_of-Arm n
arms_in (Switch' on shape row other at) = (_, row)
arms_in _ = (_, end_of-Arm)

abbrev pub other_in : Stmt → Held-Stmt-If-2
other_in (Switch' on shape row other at) = other
other_in _ = None'

pub written-Assign : (kind : Kind) (left : Path) (value : Expr) (at : ℕ) → PathIsWritten left → IsWritten value → StatementIsWritten (Assign kind left value at)
written-Assign kind left value at h k = (indexes-of-parts (out-Path left).parts h, k)

pub written-Block : (parts : List Stmt) → AllByRecursion StatementIsWritten parts → StatementIsWritten (Block parts)
written-Block parts h = stmts-row (stmts_in (Block parts)).0 (stmts_in (Block parts)).1 (subst (AllByRecursion StatementIsWritten) (sym (items_hidden-the_row-Stmt-0 parts)) h)

pub written-If : (cond : Expr) (x : Stmt) (y : Option Stmt) (at : ℕ) → IsWritten cond → StatementIsWritten x → OtherIsWritten y → StatementIsWritten (If cond x y at)
unfolding computing
written-If cond x None at c h k = (c, h, tt)
written-If cond x (Some y) at c h k = (c, h, k)

other-held : (on : Expr) (arms : List Arm) (y : Option Stmt) (at : ℕ) → OtherIsWritten y → BranchIsWritten (other_in (Switch on arms y at))
unfolding computing
other-held on arms None at h = tt
other-held on arms (Some y) at h = h

pub written-Switch : (on : Expr) (arms : List Arm) (y : Option Stmt) (at : ℕ) → IsWritten on → AllByRecursion ArmIsWritten arms → OtherIsWritten y → StatementIsWritten (Switch on arms y at)
written-Switch on arms y at c h k = (
  c,
  arms-row (arms_in (Switch on arms y at)).0 (arms_in (Switch on arms y at)).1 (subst (AllByRecursion ArmIsWritten) (sym (items_hidden-the_row-Arm-2 arms)) h),
  other-held on arms y at k,
)

pub written-Default : (x y : Stmt) (at : ℕ) → StatementIsWritten x → StatementIsWritten y → StatementIsWritten (Default x y at)
unfolding computing
written-Default x y at h k = (h, k)

pub written-For : (var : Word) (from to : ℕ) (closed : Bool) (step : ℕ) (body : Stmt) (at : ℕ) → StatementIsWritten body → StatementIsWritten (For var from to closed step body at)
unfolding computing
written-For var from to closed step body at h = h

pub written-Forall : (var : Word) (over : TypeExpr) (body : Stmt) (at : ℕ) → IsIndexType over → StatementIsWritten body → StatementIsWritten (Forall var over body at)
unfolding computing
written-Forall var over body at i h = (h, i)

pub written-arm : (labels : List Expr) (body : Stmt) → AreWritten labels → StatementIsWritten body → ArmIsWritten (roll-Arm (record { labels = labels; body = body }))
unfolding computing
written-arm labels body h k = (h, k)

-- ---- items

items-row : (n : _) (row : Row_of-Item n) → AllByRecursion InnerIsWritten (items-the_row-Item n row) → InnersAreWritten row
items-row n end_of-Item h = tt
items-row n (more_of-Item part rest) h = (h.0, items-row _ rest h.1)

abbrev pub items_in : Item → (n : Count) × Row_of-Item n
items_in (item.Block' shape row) = (_, row)
items_in _ = (_, end_of-Item)

pub inner-Block : (items : List Item) → AllByRecursion InnerIsWritten items → InnerIsWritten (item.Block items)
inner-Block items h = items-row (items_in (item.Block items)).0 (items_in (item.Block items)).1 (subst (AllByRecursion InnerIsWritten) (sym (items_hidden-the_row-Item-1 items)) h)

pub inner-Forall : (var : Word) (over : TypeExpr) (body : Item) (at : ℕ) → IsIndexType over → InnerIsWritten body → InnerIsWritten (item.Forall var over body at)
unfolding computing
inner-Forall var over body at i h = (h, i)
