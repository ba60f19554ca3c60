-- Trees that are made of trees in which none of some names stands are so too.
use Rattle.std.proofs.Common.{◌≡◌, ℕ, Bool, false, List, [], ◌∷◌, Option, Some, None, sym, subst}
use Rattle.std.specs.List.{AllByRecursion}
use Rattle.smv_core.specs.Values.{Name}
use Rattle.smv_core.specs.Outcome.{fields_of}
use Rattle.smv_core.specs.Walk.{indexes_of}
use Rattle.smv_core.specs.declared.tree.Word.{Word}
use Rattle.smv_core.specs.declared.tree.Op.{Op}
use Rattle.smv_core.specs.declared.tree.Kind.{Kind}
use Rattle.smv_core.specs.declared.tree.Path.{Path, out-Path}
use Rattle.smv_core.specs.declared.tree.Part.{Part, Field, At}
use Rattle.smv_core.specs.declared.tree.Signed.{Signed, roll-Signed, out-Signed}
use Rattle.smv_core.specs.declared.tree.Member.{Member, One, Span as SpanOf}
use Rattle.smv_core.specs.declared.tree.Arm.{Arm, roll-Arm, out-Arm}
use Rattle.smv_core.specs.declared.tree.Field.{Field as TreeField, roll-Field, out-Field}
use Rattle.smv_core.specs.declared.tree.TypeExpr.{TypeExpr, Array, Struct, Struct', Row_of-Field, end_of-Field, more_of-Field, items-the_row-Field, items_hidden-the_row-Field-1}
use Rattle.smv_core.specs.declared.tree.Expr.{Expr, Signal, Signal', Not, And, And', Or, Or', Implies, Implies', Iff, Compare, Within, Sum, Sum', Modulo, Choose, All, Any, List as ListOf, List', Each}
use Rattle.smv_core.specs.declared.tree.Expr.{Row_of-Expr, end_of-Expr, more_of-Expr, Row_of-Part, end_of-Part, more_of-Part, Row_of-Member, end_of-Member, more_of-Member, Row_of-Signed, end_of-Signed, more_of-Signed}
use Rattle.smv_core.specs.declared.tree.Expr.{items-the_row-Part, items-the_row-Expr, items-the_row-Member, items-the_row-Signed, items_hidden-the_row-Part-0, items_hidden-the_row-Expr-2, items_hidden-the_row-Member-4, items_hidden-the_row-Signed-3}
use Rattle.smv_core.specs.declared.tree.Stmt.{Stmt, Assign, Block, If, Switch, Default, For, Forall, Row_of-Stmt, end_of-Stmt, more_of-Stmt, Row_of-Arm, end_of-Arm, more_of-Arm}
use Rattle.smv_core.specs.declared.tree.Stmt.{items-the_row-Stmt, items-the_row-Arm, items_hidden-the_row-Stmt-0, items_hidden-the_row-Arm-2}
use Rattle.smv_core.specs.declared.tree.Item as item
use Rattle.smv_core.specs.declared.tree.Item.{Item, Row_of-Item, end_of-Item, more_of-Item, items-the_row-Item, items_hidden-the_row-Item-1}
use mathlib.Core.Former.{Count}
use Rattle.smv_core.specs.Grammar.{named}
use Rattle.law_places.proofs.Computing.{computing}
use Rattle.law_designs.proofs.WrittenForms.{exprs_in, parts_in, members_in, terms_in, stmts_in, arms_in, other_in, items_in}
use Rattle.law_formulas.specs.Formulas.{Formula}
use Rattle.law_watched_runs.specs.Paths.{EachRead, PartsRead, IndexesRead, TermsRead, MembersRead, EachReadAmong, BranchReads, ArmsRead}
use Rattle.law_watched_runs.specs.Extended.{is_fresh, IsOld}
use Rattle.law_formula_trees.specs.Placed.{HasNoInstance, HaveNoInstance, HoldsNoInstance}
use Rattle.law_fresh_monitors.specs.Names.{IsOldName, AreOldWords, IsOldType, AreOldFields, AreOldLefts, IsOldBranch, AreOldArms, IsOldAct, IsOldItem, AreOldItems}

module _ (fresh : List Name) where
  abbrev pub Reads : Expr → Type 0
  Reads e = EachRead (IsOld fresh) e

  -- ---- types

  abbrev pub FieldOld : TreeField → Type 0
  FieldOld x = AreOldWords fresh (out-Field x).names × IsOldType fresh (out-Field x).of

  fields-row : (n : _) (row : Row_of-Field n) → AllByRecursion FieldOld (items-the_row-Field n row) → AreOldFields fresh row
  unfolding computing
  fields-row n end_of-Field h = tt
  fields-row n (more_of-Field names of at rest) h = (h.0.0, h.0.1, fields-row _ rest h.1)

  abbrev fields_in : TypeExpr → (n : Count) × Row_of-Field n
  fields_in (Struct' shape row) = (_, row)
  fields_in _ = (_, end_of-Field)

  pub old-Struct : (fields : List TreeField) → AllByRecursion FieldOld fields → IsOldType fresh (Struct fields)
  old-Struct fields h = fields-row (fields_in (Struct fields)).0 (fields_in (Struct fields)).1 (subst (AllByRecursion FieldOld) (sym (items_hidden-the_row-Field-1 fields)) h)

  pub old-Array : (index of : TypeExpr) → IsOldType fresh of → IsOldType fresh (Array index of)
  unfolding computing
  old-Array index of h = h

  pub old-field : (names : List Word) (of : TypeExpr) (at : ℕ) → AreOldWords fresh names → IsOldType fresh of → FieldOld (roll-Field (record { names = names; of = of; at = at }))
  unfolding computing
  old-field names of at h k = (h, k)

  -- ---- paths

  abbrev pub PartOld : Part → Type 0
  PartOld (Field word) = IsOldName fresh word.name
  PartOld (At index) = Reads index

  abbrev pub PathOld : Path → Type 0
  PathOld path = IsOld fresh (fields_of (out-Path path).parts) × AllByRecursion PartOld (out-Path path).parts

  end-old : (name : Name) (more : List Name) → IsOldName fresh name → AllByRecursion (IsOldName fresh) more → is_fresh fresh (name ∷ more) ≡ false
  end-old name [] h k = h
  end-old name (other ∷ more) h k = end-old other more k.0 k.1

  fields-old : (parts : List Part) → AllByRecursion PartOld parts → AllByRecursion (IsOldName fresh) (fields_of parts)
  fields-old [] h = tt
  fields-old (Field word ∷ parts) h = (h.0, fields-old parts h.1)
  fields-old (At index ∷ parts) h = fields-old parts h.1

  pub old-named : (word : Word) (parts : List Part) → IsOldName fresh word.name → AllByRecursion PartOld parts → PathOld (named word parts)
  unfolding computing
  old-named word parts h k = (end-old word.name (fields_of parts) h (fields-old parts k), (h, k))

  -- ---- expressions

  abbrev pub MemberOld : Member → Type 0
  MemberOld (One e) = Reads e
  MemberOld (SpanOf span at) = Unit {0}

  abbrev pub TermOld : Signed → Type 0
  TermOld x = Reads (out-Signed x).of

  exprs-row : (n : _) (row : Row_of-Expr n) → AllByRecursion Reads (items-the_row-Expr n row) → PartsRead (IsOld fresh) row
  exprs-row n end_of-Expr h = tt
  exprs-row n (more_of-Expr e rest) h = (h.0, exprs-row _ rest h.1)

  parts-row : (n : _) (row : Row_of-Part n) → AllByRecursion PartOld (items-the_row-Part n row) → IndexesRead (IsOld fresh) row
  unfolding computing
  parts-row n end_of-Part h = tt
  parts-row n (more_of-Part (Field word) rest) h = parts-row _ rest h.1
  parts-row n (more_of-Part (At index) rest) h = (h.0, parts-row _ rest h.1)

  terms-row : (n : _) (row : Row_of-Signed n) → AllByRecursion TermOld (items-the_row-Signed n row) → TermsRead (IsOld fresh) row
  unfolding computing
  terms-row n end_of-Signed h = tt
  terms-row n (more_of-Signed minus e rest) h = (h.0, terms-row _ rest h.1)

  members-row : (n : _) (row : Row_of-Member n) → AllByRecursion MemberOld (items-the_row-Member n row) → MembersRead (IsOld fresh) row
  unfolding computing
  members-row n end_of-Member h = tt
  members-row n (more_of-Member (One e) rest) h = (h.0, members-row _ rest h.1)
  members-row n (more_of-Member (SpanOf span at) rest) h = members-row _ rest h.1

  pub old-And : (es : List Expr) → AllByRecursion Reads es → Reads (And es)
  old-And es h = exprs-row (exprs_in (And es)).0 (exprs_in (And es)).1 (subst (AllByRecursion Reads) (sym (items_hidden-the_row-Expr-2 es)) h)

  pub old-Or : (es : List Expr) → AllByRecursion Reads es → Reads (Or es)
  old-Or es h = exprs-row (exprs_in (Or es)).0 (exprs_in (Or es)).1 (subst (AllByRecursion Reads) (sym (items_hidden-the_row-Expr-2 es)) h)

  pub old-Implies : (es : List Expr) → AllByRecursion Reads es → Reads (Implies es)
  old-Implies es h = exprs-row (exprs_in (Implies es)).0 (exprs_in (Implies es)).1 (subst (AllByRecursion Reads) (sym (items_hidden-the_row-Expr-2 es)) h)

  pub old-List : (members : List Member) (at : ℕ) → AllByRecursion MemberOld members → Reads (ListOf members at)
  old-List members at h = members-row (members_in (ListOf members at)).0 (members_in (ListOf members at)).1 (subst (AllByRecursion MemberOld) (sym (items_hidden-the_row-Member-4 members)) h)

  pub old-Signal : (path : Path) → PathOld path → Reads (Signal path)
  old-Signal path h = (
    subst (λ parts. IsOld fresh (fields_of parts)) (sym (items_hidden-the_row-Part-0 (out-Path path).parts)) h.0,
    parts-row (parts_in (Signal path)).0 (parts_in (Signal path)).1 (subst (AllByRecursion PartOld) (sym (items_hidden-the_row-Part-0 (out-Path path).parts)) h.1),
  )

  pub old-Sum : (first : Expr) (more : List Signed) → Reads first → AllByRecursion TermOld more → Reads (Sum first more)
  unfolding Rattle.smv_core.specs.declared.tree.Expr.TheBlock.hidden-the_row-Expr-1 Rattle.smv_core.specs.declared.tree.Expr.TheBlock.shape-the_row-Expr-1 denote.Hole.Carrier.hidden
  old-Sum first more e h = (e, terms-row (terms_in (Sum first more)).0 (terms_in (Sum first more)).1 (subst (AllByRecursion TermOld) (sym (items_hidden-the_row-Signed-3 more)) h))

  pub old-Not : (e : Expr) (at : ℕ) → Reads e → Reads (Not e at)
  unfolding computing
  old-Not e at h = h

  pub old-Modulo : (e : Expr) (by at : ℕ) → Reads e → Reads (Modulo e by at)
  unfolding computing
  old-Modulo e by at h = h

  pub old-Iff : (x y : Expr) → Reads x → Reads y → Reads (Iff x y)
  unfolding computing
  old-Iff x y h k = (h, k)

  pub old-Compare : (op : Op) (x y : Expr) → Reads x → Reads y → Reads (Compare op x y)
  unfolding computing
  old-Compare op x y h k = (h, k)

  pub old-Within : (x y : Expr) → Reads x → Reads y → Reads (Within x y)
  unfolding computing
  old-Within x y h k = (h, k)

  pub old-Choose : (c x y : Expr) → Reads c → Reads x → Reads y → Reads (Choose c x y)
  unfolding computing
  old-Choose c x y g h k = (g, h, k)

  pub old-All : (body : Expr) (var : Word) (over : TypeExpr) (at : ℕ) → Reads body → Reads (All body var over at)
  unfolding computing
  old-All body var over at h = h

  pub old-Any : (body : Expr) (var : Word) (over : TypeExpr) (at : ℕ) → Reads body → Reads (Any body var over at)
  unfolding computing
  old-Any body var over at h = h

  abbrev pub ReadsOrNone : Option Expr → Type 0
  ReadsOrNone None = Unit {0}
  ReadsOrNone (Some e) = Reads e

  pub old-Each : (var : Word) (over : TypeExpr) (cond : Option Expr) (at : ℕ) → ReadsOrNone cond → Reads (Each var over cond at)
  unfolding computing
  old-Each var over None at h = tt
  old-Each var over (Some cond) at h = h

  pub old-term : (minus : Bool) (e : Expr) → Reads e → TermOld (roll-Signed (record { minus = minus; of = e }))
  unfolding computing
  old-term minus e h = h

  indexes-of-parts : (parts : List Part) → AllByRecursion PartOld parts → AllByRecursion Reads (indexes_of parts)
  indexes-of-parts [] h = tt
  indexes-of-parts (Field word ∷ parts) h = indexes-of-parts parts h.1
  indexes-of-parts (At index ∷ parts) h = (h.0, indexes-of-parts parts h.1)

  -- ---- statements

  abbrev pub ArmOld : Arm → Type 0
  ArmOld x = AllByRecursion Reads (out-Arm x).labels × IsOldAct fresh (out-Arm x).body

  abbrev pub OtherOld : Option Stmt → Type 0
  OtherOld None = Unit {0}
  OtherOld (Some act) = IsOldAct fresh act

  reads-row : (n : _) (row : Row_of-Stmt n) → AllByRecursion (IsOldAct fresh) (items-the_row-Stmt n row) → EachReadAmong (IsOld fresh) row
  reads-row n end_of-Stmt h = tt
  reads-row n (more_of-Stmt part rest) h = (h.0.0, reads-row _ rest h.1)

  lefts-row : (n : _) (row : Row_of-Stmt n) → AllByRecursion (IsOldAct fresh) (items-the_row-Stmt n row) → AreOldLefts fresh row
  lefts-row n end_of-Stmt h = tt
  lefts-row n (more_of-Stmt part rest) h = (h.0.1, lefts-row _ rest h.1)

  arms-reads : (n : _) (row : Row_of-Arm n) → AllByRecursion ArmOld (items-the_row-Arm n row) → ArmsRead (IsOld fresh) row
  unfolding computing
  arms-reads n end_of-Arm h = tt
  arms-reads n (more_of-Arm labels body rest) h = (h.0.0, h.0.1.0, arms-reads _ rest h.1)

  arms-lefts : (n : _) (row : Row_of-Arm n) → AllByRecursion ArmOld (items-the_row-Arm n row) → AreOldArms fresh row
  unfolding computing
  arms-lefts n end_of-Arm h = tt
  arms-lefts n (more_of-Arm labels body rest) h = (h.0.1.1, arms-lefts _ rest h.1)

  pub old-Assign : (kind : Kind) (left : Path) (value : Expr) (at : ℕ) → PathOld left → Reads value → IsOldAct fresh (Assign kind left value at)
  old-Assign kind left value at h k = ((indexes-of-parts (out-Path left).parts h.1, k), h.0)

  pub old-Block : (parts : List Stmt) → AllByRecursion (IsOldAct fresh) parts → IsOldAct fresh (Block parts)
  old-Block parts h =
      let k = subst (AllByRecursion (IsOldAct fresh)) (sym (items_hidden-the_row-Stmt-0 parts)) h in
      (reads-row (stmts_in (Block parts)).0 (stmts_in (Block parts)).1 k, lefts-row (stmts_in (Block parts)).0 (stmts_in (Block parts)).1 k)

  pub old-If : (cond : Expr) (x : Stmt) (y : Option Stmt) (at : ℕ) → Reads cond → IsOldAct fresh x → OtherOld y → IsOldAct fresh (If cond x y at)
  unfolding computing
  old-If cond x None at c h k = ((c, h.0, tt), (h.1, tt))
  old-If cond x (Some y) at c h k = ((c, h.0, k.0), (h.1, k.1))

  other-reads : (on : Expr) (arms : List Arm) (y : Option Stmt) (at : ℕ) → OtherOld y → BranchReads (IsOld fresh) (other_in (Switch on arms y at))
  unfolding computing
  other-reads on arms None at h = tt
  other-reads on arms (Some y) at h = h.0

  other-left : (on : Expr) (arms : List Arm) (y : Option Stmt) (at : ℕ) → OtherOld y → IsOldBranch fresh (other_in (Switch on arms y at))
  unfolding computing
  other-left on arms None at h = tt
  other-left on arms (Some y) at h = h.1

  pub old-Switch : (on : Expr) (arms : List Arm) (y : Option Stmt) (at : ℕ) → Reads on → AllByRecursion ArmOld arms → OtherOld y → IsOldAct fresh (Switch on arms y at)
  old-Switch on arms y at c h k =
      let rows = subst (AllByRecursion ArmOld) (sym (items_hidden-the_row-Arm-2 arms)) h in (
        (c, arms-reads (arms_in (Switch on arms y at)).0 (arms_in (Switch on arms y at)).1 rows, other-reads on arms y at k),
        (arms-lefts (arms_in (Switch on arms y at)).0 (arms_in (Switch on arms y at)).1 rows, other-left on arms y at k),
      )

  pub old-Default : (x y : Stmt) (at : ℕ) → IsOldAct fresh x → IsOldAct fresh y → IsOldAct fresh (Default x y at)
  unfolding computing
  old-Default x y at h k = ((h.0, k.0), (h.1, k.1))

  pub old-For : (var : Word) (from to : ℕ) (closed : Bool) (step : ℕ) (body : Stmt) (at : ℕ) → IsOldAct fresh body → IsOldAct fresh (For var from to closed step body at)
  unfolding computing
  old-For var from to closed step body at h = h

  pub old-Forall : (var : Word) (over : TypeExpr) (body : Stmt) (at : ℕ) → IsOldAct fresh body → IsOldAct fresh (Forall var over body at)
  unfolding computing
  old-Forall var over body at h = h

  pub old-arm : (labels : List Expr) (body : Stmt) → AllByRecursion Reads labels → IsOldAct fresh body → ArmOld (roll-Arm (record { labels = labels; body = body }))
  unfolding computing
  old-arm labels body h k = (h, k)

  -- ---- items

  module _ (formulas : List (ℕ × Formula)) where
    -- in an item stands none of the names, and no instance
    abbrev pub InnerOld : Item → Type 0
    InnerOld x = IsOldItem fresh formulas x × HasNoInstance x

    items-row : (n : _) (row : Row_of-Item n) → AllByRecursion InnerOld (items-the_row-Item n row) → AreOldItems fresh formulas row × HaveNoInstance row
    items-row n end_of-Item h = (tt, tt)
    items-row n (more_of-Item part rest) h = let r = items-row _ rest h.1 in ((h.0.0, r.0), (h.0.1, r.1))

    pub inner-Block : (items : List Item) → AllByRecursion InnerOld items → InnerOld (item.Block items)
    inner-Block items h = items-row (items_in (item.Block items)).0 (items_in (item.Block items)).1 (subst (AllByRecursion InnerOld) (sym (items_hidden-the_row-Item-1 items)) h)

    pub inner-Forall : (var : Word) (over : TypeExpr) (body : Item) (at : ℕ) → IsOldName fresh var.name → InnerOld body → InnerOld (item.Forall var over body at)
    unfolding computing
    inner-Forall var over body at own h = ((own, h.0), h.1)

    -- what stands in a module: none of the names, and instances only in plain sight
    abbrev pub BodyOld : Item → Type 0
    BodyOld x = IsOldItem fresh formulas x × HoldsNoInstance x

    pub inner-body : (x : Item) → InnerOld x → BodyOld x
    inner-body (item.Declare role words of at) h = (h.0, tt)
    inner-body (item.Instance words name args at) h = (h.0, tt)
    inner-body (item.Layer name body at) h = (h.0, tt)
    inner-body (item.Forall' var over shape (more_of-Item body end_of-Item) at) h = h
    inner-body (item.Block' shape items) h = h
    inner-body (item.Claim name vars body at) h = (h.0, tt)
    inner-body (item.Split name vars of pairs at) h = (h.0, tt)
    inner-body (item.Using uses proves at) h = (h.0, tt)
    inner-body (item.Act act) h = (h.0, tt)
