-- The paths that stand in expressions and statements: what is read and what is assigned.
use Rattle.std.specs.List.{AllByRecursion}
use Rattle.smv_core.specs.Values.{Path}
use Rattle.smv_core.specs.Outcome.{fields_of}
use Rattle.smv_core.specs.Walk.{indexes_of}
use Rattle.smv_core.specs.declared.tree.Path.{out-Path}
use Rattle.smv_core.specs.declared.tree.Part.{Field, At}
use Rattle.smv_core.specs.declared.tree.Member.{One, Span as SpanOf}
use Rattle.smv_core.specs.declared.tree.Expr.{Expr, Number, Signal', Not', And', Or', Implies', Iff', Compare', Within', Sum', Modulo', Choose', All', Any', List', Each', None', Some', Row_of-Expr, end_of-Expr, more_of-Expr, Row_of-Part, end_of-Part, more_of-Part, Row_of-Member, end_of-Member, more_of-Member, Row_of-Signed, end_of-Signed, more_of-Signed, items-the_row-Part}
use Rattle.smv_core.specs.declared.tree.Stmt as stmt
use Rattle.smv_core.specs.declared.tree.Stmt.{Stmt, Assign, Block', If', Switch', Default', For', Forall', Row_of-Stmt, end_of-Stmt, more_of-Stmt, Row_of-Arm, end_of-Arm, more_of-Arm}
use Rattle.smv_core.specs.Rows.{one_expr, one_stmt, Condition, Otherwise}

module _ (P : Path → Type 0) where
  abbrev mutual
    -- each path that the expression reads
    pub EachRead : Expr → Type 0
    EachRead (Number value at) = Unit {0}
    EachRead (Signal' shape parts at) = P (fields_of (items-the_row-Part _ parts)) × IndexesRead parts
    EachRead (Not' shape (one_expr e) at) = EachRead e
    EachRead (And' shape parts) = PartsRead parts
    EachRead (Or' shape parts) = PartsRead parts
    EachRead (Implies' shape parts) = PartsRead parts
    EachRead (Iff' l (one_expr left) r (one_expr right)) = EachRead left × EachRead right
    EachRead (Compare' op l (one_expr left) r (one_expr right)) = EachRead left × EachRead right
    EachRead (Within' l (one_expr left) r (one_expr set)) = EachRead left × EachRead set
    EachRead (Sum' f (one_expr first) shape more) = EachRead first × TermsRead more
    EachRead (Modulo' shape (one_expr e) by at) = EachRead e
    EachRead (Choose' c (one_expr cond) l (one_expr left) r (one_expr right)) = EachRead cond × EachRead left × EachRead right
    EachRead (All' shape (one_expr body) var over at) = EachRead body
    EachRead (Any' shape (one_expr body) var over at) = EachRead body
    EachRead (List' shape members at) = MembersRead members
    EachRead (Each' var over cond at) = ConditionRead cond

    pub PartsRead : {m : _} → Row_of-Expr m → Type 0
    PartsRead end_of-Expr = Unit {0}
    PartsRead (more_of-Expr e rest) = EachRead e × PartsRead rest

    pub IndexesRead : {m : _} → Row_of-Part m → Type 0
    IndexesRead end_of-Part = Unit {0}
    IndexesRead (more_of-Part (Field word) rest) = IndexesRead rest
    IndexesRead (more_of-Part (At index) rest) = EachRead index × IndexesRead rest

    pub TermsRead : {m : _} → Row_of-Signed m → Type 0
    TermsRead end_of-Signed = Unit {0}
    TermsRead (more_of-Signed minus e rest) = EachRead e × TermsRead rest

    pub MembersRead : {m : _} → Row_of-Member m → Type 0
    MembersRead end_of-Member = Unit {0}
    MembersRead (more_of-Member (One e) rest) = EachRead e × MembersRead rest
    MembersRead (more_of-Member (SpanOf span at) rest) = MembersRead rest

    pub ConditionRead : Condition → Type 0
    ConditionRead None' = Unit {0}
    ConditionRead (Some' shape (one_expr cond)) = EachRead cond

  abbrev mutual
    -- each path that the statement reads
    pub EachReadIn : Stmt → Type 0
    EachReadIn (Assign kind left value at) = AllByRecursion EachRead (indexes_of (out-Path left).parts) × EachRead value
    EachReadIn (Block' shape parts) = EachReadAmong parts
    EachReadIn (If' cond l (one_stmt left) right at) = EachRead cond × EachReadIn left × BranchReads right
    EachReadIn (Switch' on shape arms other at) = EachRead on × ArmsRead arms × BranchReads other
    EachReadIn (Default' l (one_stmt left) r (one_stmt right) at) = EachReadIn left × EachReadIn right
    EachReadIn (For' var from to closed step shape (one_stmt body) at) = EachReadIn body
    EachReadIn (Forall' var over shape (one_stmt body) at) = EachReadIn body

    pub EachReadAmong : {m : _} → Row_of-Stmt m → Type 0
    EachReadAmong end_of-Stmt = Unit {0}
    EachReadAmong (more_of-Stmt part rest) = EachReadIn part × EachReadAmong rest

    pub BranchReads : Otherwise → Type 0
    BranchReads stmt.None' = Unit {0}
    BranchReads (stmt.Some' shape (one_stmt part)) = EachReadIn part

    pub ArmsRead : {m : _} → Row_of-Arm m → Type 0
    ArmsRead end_of-Arm = Unit {0}
    ArmsRead (more_of-Arm labels body rest) = AllByRecursion EachRead labels × EachReadIn body × ArmsRead rest
