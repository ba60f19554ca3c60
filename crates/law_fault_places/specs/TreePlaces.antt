-- Trees all of whose places are at most a number: each word, number and sign that the tree gives an offset.
use Rattle.std.specs.Prelude.{◌≤◌, ℕ, List, IfSome}
use Rattle.std.specs.List.{AllByRecursion}
use Rattle.smv_core.specs.Notation.{Tokens}
use Rattle.smv_core.specs.Spelling.{Spells}
use Rattle.smv_core.specs.declared.token.Token.{Token}
use Rattle.smv_core.specs.declared.tree.Word.{Word}
use Rattle.smv_core.specs.declared.tree.Ref.{Ref}
use Rattle.smv_core.specs.declared.tree.Use.{Use}
use Rattle.smv_core.specs.declared.tree.Use.TheVariants.{Plain, Early, Keep}
use Rattle.smv_core.specs.declared.tree.Pair.{Pair}
use Rattle.smv_core.specs.declared.tree.Path.{Path, out-Path}
use Rattle.smv_core.specs.declared.tree.Part.{Part, Field, At}
use Rattle.smv_core.specs.declared.tree.Member.{One, Span as SpanOf}
use Rattle.smv_core.specs.declared.tree.TypeExpr.{TypeExpr, Boolean, Range, Enum, Named, Array', Struct', Row_of-Field, end_of-Field, more_of-Field}
use Rattle.smv_core.specs.declared.tree.Expr.{Expr, Number, Signal', Not', And', Or', Implies', Iff', Compare', Within', Sum', Modulo', Choose', All', Any', List', Each', None', Some', Row_of-Expr, end_of-Expr, more_of-Expr, Row_of-Part, end_of-Part, more_of-Part, Row_of-Member, end_of-Member, more_of-Member, Row_of-Signed, end_of-Signed, more_of-Signed}
use Rattle.smv_core.specs.declared.tree.Stmt.{Stmt, Assign, Block', If', Switch', Default', For', Forall', Row_of-Stmt, end_of-Stmt, more_of-Stmt, Row_of-Arm, end_of-Arm, more_of-Arm}
use Rattle.smv_core.specs.declared.tree.Stmt as stmt
use Rattle.smv_core.specs.declared.tree.Item.{Item, Declare, Instance, Layer, Claim, Split, Using, Act, Row_of-Item, end_of-Item, more_of-Item}
use Rattle.smv_core.specs.declared.tree.Item as item
use Rattle.smv_core.specs.declared.tree.Top.{Top}
use Rattle.smv_core.specs.declared.tree.Top.TheVariants.{SetType, Alias, Module}
use Rattle.smv_core.specs.declared.tree.Text.{Text}
use Rattle.smv_core.specs.Rows.{one_expr, one_stmt, one_type, Condition, Otherwise}

module _ (n : ℕ) where
  -- ---- words

  abbrev pub WordIsWithin : Word → Type 0
  WordIsWithin word = word.at ≤ n

  abbrev pub WordsAreWithin : List Word → Type 0
  WordsAreWithin words = AllByRecursion WordIsWithin words

  -- ---- types

  abbrev mutual
    pub TypeIsWithin : TypeExpr → Type 0
    TypeIsWithin Boolean = Unit {0}
    TypeIsWithin (Range span at) = at ≤ n
    TypeIsWithin (Enum names at) = WordsAreWithin names × (at ≤ n)
    TypeIsWithin (Named name at) = WordIsWithin name × (at ≤ n)
    TypeIsWithin (Array' i (one_type index) o (one_type of)) = TypeIsWithin index × TypeIsWithin of
    TypeIsWithin (Struct' shape fields) = FieldsAreWithin fields

    pub FieldsAreWithin : {m : _} → Row_of-Field m → Type 0
    FieldsAreWithin end_of-Field = Unit {0}
    FieldsAreWithin (more_of-Field names of at rest) = WordsAreWithin names × TypeIsWithin of × (at ≤ n) × FieldsAreWithin rest

  -- ---- expressions

  abbrev mutual
    pub ExprIsWithin : Expr → Type 0
    ExprIsWithin (Number value at) = at ≤ n
    ExprIsWithin (Signal' shape parts at) = (at ≤ n) × PartsAreWithin parts
    ExprIsWithin (Not' shape (one_expr e) at) = (at ≤ n) × ExprIsWithin e
    ExprIsWithin (And' shape parts) = RowIsWithin parts
    ExprIsWithin (Or' shape parts) = RowIsWithin parts
    ExprIsWithin (Implies' shape parts) = RowIsWithin parts
    ExprIsWithin (Iff' l (one_expr left) r (one_expr right)) = ExprIsWithin left × ExprIsWithin right
    ExprIsWithin (Compare' op l (one_expr left) r (one_expr right)) = ExprIsWithin left × ExprIsWithin right
    ExprIsWithin (Within' l (one_expr left) r (one_expr set)) = ExprIsWithin left × ExprIsWithin set
    ExprIsWithin (Sum' f (one_expr first) shape more) = ExprIsWithin first × TermsAreWithin more
    ExprIsWithin (Modulo' shape (one_expr e) by at) = (at ≤ n) × ExprIsWithin e
    ExprIsWithin (Choose' c (one_expr cond) l (one_expr left) r (one_expr right)) = ExprIsWithin cond × ExprIsWithin left × ExprIsWithin right
    ExprIsWithin (All' shape (one_expr body) var over at) = (at ≤ n) × WordIsWithin var × TypeIsWithin over × ExprIsWithin body
    ExprIsWithin (Any' shape (one_expr body) var over at) = (at ≤ n) × WordIsWithin var × TypeIsWithin over × ExprIsWithin body
    ExprIsWithin (List' shape members at) = (at ≤ n) × MembersAreWithin members
    ExprIsWithin (Each' var over cond at) = (at ≤ n) × WordIsWithin var × TypeIsWithin over × ConditionIsWithin cond

    pub RowIsWithin : {m : _} → Row_of-Expr m → Type 0
    RowIsWithin end_of-Expr = Unit {0}
    RowIsWithin (more_of-Expr e rest) = ExprIsWithin e × RowIsWithin rest

    -- the words and the indexes of a path
    pub PartsAreWithin : {m : _} → Row_of-Part m → Type 0
    PartsAreWithin end_of-Part = Unit {0}
    PartsAreWithin (more_of-Part (Field word) rest) = WordIsWithin word × PartsAreWithin rest
    PartsAreWithin (more_of-Part (At index) rest) = ExprIsWithin index × PartsAreWithin rest

    pub TermsAreWithin : {m : _} → Row_of-Signed m → Type 0
    TermsAreWithin end_of-Signed = Unit {0}
    TermsAreWithin (more_of-Signed minus e rest) = ExprIsWithin e × TermsAreWithin rest

    pub MembersAreWithin : {m : _} → Row_of-Member m → Type 0
    MembersAreWithin end_of-Member = Unit {0}
    MembersAreWithin (more_of-Member (One e) rest) = ExprIsWithin e × MembersAreWithin rest
    MembersAreWithin (more_of-Member (SpanOf span at) rest) = (at ≤ n) × MembersAreWithin rest

    pub ConditionIsWithin : Condition → Type 0
    ConditionIsWithin None' = Unit {0}
    ConditionIsWithin (Some' shape (one_expr cond)) = ExprIsWithin cond

  abbrev pub ExprsAreWithin : List Expr → Type 0
  ExprsAreWithin es = AllByRecursion ExprIsWithin es

  -- ---- paths

  abbrev pub PartIsWithin : Part → Type 0
  PartIsWithin (Field word) = WordIsWithin word
  PartIsWithin (At index) = ExprIsWithin index

  abbrev pub PathIsWithin : Path → Type 0
  PathIsWithin path = ((out-Path path).at ≤ n) × AllByRecursion PartIsWithin (out-Path path).parts

  -- ---- statements

  abbrev mutual
    pub StatementIsWithin : Stmt → Type 0
    StatementIsWithin (Assign kind left value at) = (at ≤ n) × PathIsWithin left × ExprIsWithin value
    StatementIsWithin (Block' shape parts) = StatementsAreWithin parts
    StatementIsWithin (If' cond l (one_stmt left) right at) = (at ≤ n) × ExprIsWithin cond × StatementIsWithin left × BranchIsWithin right
    StatementIsWithin (Switch' on shape arms other at) = (at ≤ n) × ExprIsWithin on × ArmsAreWithin arms × BranchIsWithin other
    StatementIsWithin (Default' l (one_stmt left) r (one_stmt right) at) = (at ≤ n) × StatementIsWithin left × StatementIsWithin right
    StatementIsWithin (For' var from to closed step shape (one_stmt body) at) = (at ≤ n) × WordIsWithin var × StatementIsWithin body
    StatementIsWithin (Forall' var over shape (one_stmt body) at) = (at ≤ n) × WordIsWithin var × TypeIsWithin over × StatementIsWithin body

    pub StatementsAreWithin : {m : _} → Row_of-Stmt m → Type 0
    StatementsAreWithin end_of-Stmt = Unit {0}
    StatementsAreWithin (more_of-Stmt part rest) = StatementIsWithin part × StatementsAreWithin rest

    -- an `else` or a `default`, or none
    pub BranchIsWithin : Otherwise → Type 0
    BranchIsWithin stmt.None' = Unit {0}
    BranchIsWithin (stmt.Some' shape (one_stmt part)) = StatementIsWithin part

    pub ArmsAreWithin : {m : _} → Row_of-Arm m → Type 0
    ArmsAreWithin end_of-Arm = Unit {0}
    ArmsAreWithin (more_of-Arm labels body rest) = ExprsAreWithin labels × StatementIsWithin body × ArmsAreWithin rest

  -- ---- references

  abbrev pub RefIsWithin : Ref → Type 0
  RefIsWithin of = WordsAreWithin of.path × WordsAreWithin of.names × IfSome of.layer WordIsWithin × (of.at ≤ n)

  abbrev pub UseIsWithin : Use → Type 0
  UseIsWithin (Plain of) = RefIsWithin of
  UseIsWithin (Early of) = RefIsWithin of
  UseIsWithin (Keep set names at) = WordIsWithin set × WordsAreWithin names × (at ≤ n)

  abbrev pub PairIsWithin : Pair → Type 0
  PairIsWithin pair = ExprIsWithin pair.left × WordIsWithin pair.right × (pair.at ≤ n)

  -- ---- items

  abbrev mutual
    pub ItemIsWithin : Item → Type 0
    ItemIsWithin (Declare role names of at) = WordsAreWithin names × TypeIsWithin of × (at ≤ n)
    ItemIsWithin (Instance names name args at) = WordsAreWithin names × WordIsWithin name × ExprsAreWithin args × (at ≤ n)
    ItemIsWithin (Layer name body at) = WordIsWithin name × AllByRecursion StatementIsWithin body × (at ≤ n)
    ItemIsWithin (item.Forall' var over shape (more_of-Item body end_of-Item) at) = (at ≤ n) × WordIsWithin var × TypeIsWithin over × ItemIsWithin body
    ItemIsWithin (item.Block' shape items) = ItemsAreWithin items
    ItemIsWithin (Claim name vars body at) = WordIsWithin name × WordsAreWithin vars × ExprIsWithin body × (at ≤ n)
    ItemIsWithin (Split name vars of pairs at) = WordIsWithin name × WordsAreWithin vars × RefIsWithin of × AllByRecursion PairIsWithin pairs × (at ≤ n)
    ItemIsWithin (Using uses proves at) = AllByRecursion UseIsWithin uses × AllByRecursion RefIsWithin proves × (at ≤ n)
    ItemIsWithin (Act act) = StatementIsWithin act

    pub ItemsAreWithin : {m : _} → Row_of-Item m → Type 0
    ItemsAreWithin end_of-Item = Unit {0}
    ItemsAreWithin (more_of-Item part rest) = ItemIsWithin part × ItemsAreWithin rest

  -- ---- texts

  abbrev pub TopIsWithin : Top → Type 0
  TopIsWithin (SetType name ordered span at) = WordIsWithin name × (at ≤ n)
  TopIsWithin (Alias name of at) = WordIsWithin name × TypeIsWithin of × (at ≤ n)
  TopIsWithin (Module name formals body at) = WordIsWithin name × WordsAreWithin formals × AllByRecursion ItemIsWithin body × (at ≤ n)

  abbrev pub TextIsWithin : Text → Type 0
  TextIsWithin text = AllByRecursion TopIsWithin text.tops

-- ---- the laws in short

-- what tokens spell has its places among theirs
abbrev pub SpelledTreesAreWithin : Type 0
SpelledTreesAreWithin = (n levels : ℕ) (tokens : Tokens) (tree : Text) → AllByRecursion (λ (t : Token). t.at ≤ n) tokens → Spells levels tokens tree → TextIsWithin n tree
