-- An expression with another name for a variable, at each place where the name does not stand behind a `.`.
use Rattle.std.specs.Prelude.{◌≡◌, [], ◌∷◌, Some, false, if◌then◌else◌}
use Rattle.std.specs.Str.{bytes_eq}
use Rattle.smv_core.specs.Values.{Name, Path, Value}
use Rattle.smv_core.specs.Types.{find_name}
use Rattle.smv_core.specs.Outcome.{Bindings, fields_of}
use Rattle.smv_core.specs.Rows.{Condition}
use Rattle.smv_core.specs.declared.tree.Word.{Word}
use Rattle.smv_core.specs.declared.tree.TypeExpr.{TypeExpr, Named}
use Rattle.smv_core.specs.declared.tree.Part.{Field, At}
use Rattle.smv_core.specs.declared.tree.Member.{One, Span as SpanOf}
use Rattle.smv_core.specs.declared.tree.Expr.{Expr, Number, Signal', Not', And', Or', Implies', Iff', Compare', Within', Sum', Modulo', Choose', All', Any', List', Each', None', Some', Row_of-Expr, end_of-Expr, more_of-Expr, Row_of-Part, end_of-Part, more_of-Part, Row_of-Member, end_of-Member, more_of-Member, Row_of-Signed, end_of-Signed, more_of-Signed, items-the_row-Part}

module _ (var fresh : Name) where
  -- a name that is the variable's is the new one
  abbrev pub new_name : Name → Name
  new_name name = if bytes_eq name var then fresh else name

  abbrev pub renamed_word : Word → Word
  renamed_word word = record { name = new_name word.name; at = word.at }

  -- what a binder of an expression runs over is a name or has none in it
  abbrev pub renamed_type : TypeExpr → TypeExpr
  renamed_type (Named word at) = Named (renamed_word word) at
  renamed_type t = t

  unfoldable mutual
    pub renamed : Expr → Expr
    renamed (Number value at) = Number value at
    renamed (Signal' shape parts at) = Signal' shape (renamed_path parts) at
    renamed (Not' shape of at) = Not' shape (renamed_row of) at
    renamed (And' shape parts) = And' shape (renamed_row parts)
    renamed (Or' shape parts) = Or' shape (renamed_row parts)
    renamed (Implies' shape parts) = Implies' shape (renamed_row parts)
    renamed (Iff' l left r right) = Iff' l (renamed_row left) r (renamed_row right)
    renamed (Compare' op l left r right) = Compare' op l (renamed_row left) r (renamed_row right)
    renamed (Within' l left r set) = Within' l (renamed_row left) r (renamed_row set)
    renamed (Sum' f first shape more) = Sum' f (renamed_row first) shape (renamed_sum more)
    renamed (Modulo' shape of by at) = Modulo' shape (renamed_row of) by at
    renamed (Choose' c cond l left r right) = Choose' c (renamed_row cond) l (renamed_row left) r (renamed_row right)
    renamed (All' shape body word over at) = All' shape (renamed_row body) (renamed_word word) (renamed_type over) at
    renamed (Any' shape body word over at) = Any' shape (renamed_row body) (renamed_word word) (renamed_type over) at
    renamed (List' shape members at) = List' shape (renamed_members members) at
    renamed (Each' word over cond at) = Each' (renamed_word word) (renamed_type over) (renamed_held cond) at

    pub renamed_row : {m : _} → Row_of-Expr m → Row_of-Expr m
    renamed_row end_of-Expr = end_of-Expr
    renamed_row (more_of-Expr e rest) = more_of-Expr (renamed e) (renamed_row rest)

    -- a path: its first name, and what stands in its indexes
    pub renamed_path : {m : _} → Row_of-Part m → Row_of-Part m
    renamed_path end_of-Part = end_of-Part
    renamed_path (more_of-Part (Field word) rest) = more_of-Part (Field (renamed_word word)) (renamed_parts rest)
    renamed_path (more_of-Part (At index) rest) = more_of-Part (At (renamed index)) (renamed_path rest)

    -- what stands behind the first name of a path
    pub renamed_parts : {m : _} → Row_of-Part m → Row_of-Part m
    renamed_parts end_of-Part = end_of-Part
    renamed_parts (more_of-Part (Field word) rest) = more_of-Part (Field word) (renamed_parts rest)
    renamed_parts (more_of-Part (At index) rest) = more_of-Part (At (renamed index)) (renamed_parts rest)

    pub renamed_sum : {m : _} → Row_of-Signed m → Row_of-Signed m
    renamed_sum end_of-Signed = end_of-Signed
    renamed_sum (more_of-Signed minus e rest) = more_of-Signed minus (renamed e) (renamed_sum rest)

    pub renamed_members : {m : _} → Row_of-Member m → Row_of-Member m
    renamed_members end_of-Member = end_of-Member
    renamed_members (more_of-Member (One e) rest) = more_of-Member (One (renamed e)) (renamed_members rest)
    renamed_members (more_of-Member (SpanOf span at) rest) = more_of-Member (SpanOf span at) (renamed_members rest)

    pub renamed_held : Condition → Condition
    renamed_held None' = None'
    renamed_held (Some' shape cond) = Some' shape (renamed_row cond)

  -- neither the variable nor the new name
  abbrev pub IsOtherName : Name → Type 0
  IsOtherName name = (bytes_eq name var ≡ false) × (bytes_eq name fresh ≡ false)

  abbrev pub IsOtherType : TypeExpr → Type 0
  IsOtherType (Named word at) = bytes_eq word.name var ≡ false
  IsOtherType t = Unit {0}

  -- a path does not begin with the new name, and where it begins with the variable it is the variable alone
  abbrev pub IsOwnPath : Path → Type 0
  IsOwnPath [] = Unit {0}
  IsOwnPath (name ∷ []) = bytes_eq name fresh ≡ false
  IsOwnPath (name ∷ other ∷ more) = IsOtherName name

  abbrev mutual
    -- No binder in the expression binds the variable or the new name, no path begins with the new name, and the variable's name is that of a variable alone: it begins
    -- no longer path and names no type.
    pub IsRenamable : Expr → Type 0
    IsRenamable (Number value at) = Unit {0}
    IsRenamable (Signal' shape parts at) = IsOwnPath (fields_of (items-the_row-Part _ parts)) × AreRenamableParts parts
    IsRenamable (Not' shape of at) = AreRenamable of
    IsRenamable (And' shape parts) = AreRenamable parts
    IsRenamable (Or' shape parts) = AreRenamable parts
    IsRenamable (Implies' shape parts) = AreRenamable parts
    IsRenamable (Iff' l left r right) = AreRenamable left × AreRenamable right
    IsRenamable (Compare' op l left r right) = AreRenamable left × AreRenamable right
    IsRenamable (Within' l left r set) = AreRenamable left × AreRenamable set
    IsRenamable (Sum' f first shape more) = AreRenamable first × IsRenamableSum more
    IsRenamable (Modulo' shape of by at) = AreRenamable of
    IsRenamable (Choose' c cond l left r right) = AreRenamable cond × AreRenamable left × AreRenamable right
    IsRenamable (All' shape body word over at) = IsOtherName word.name × IsOtherType over × AreRenamable body
    IsRenamable (Any' shape body word over at) = IsOtherName word.name × IsOtherType over × AreRenamable body
    IsRenamable (List' shape members at) = AreRenamableMembers members
    IsRenamable (Each' word over cond at) = IsOtherName word.name × IsOtherType over × IsRenamableHeld cond

    pub AreRenamable : {m : _} → Row_of-Expr m → Type 0
    AreRenamable end_of-Expr = Unit {0}
    AreRenamable (more_of-Expr e rest) = IsRenamable e × AreRenamable rest

    pub AreRenamableParts : {m : _} → Row_of-Part m → Type 0
    AreRenamableParts end_of-Part = Unit {0}
    AreRenamableParts (more_of-Part (Field word) rest) = AreRenamableParts rest
    AreRenamableParts (more_of-Part (At index) rest) = IsRenamable index × AreRenamableParts rest

    pub IsRenamableSum : {m : _} → Row_of-Signed m → Type 0
    IsRenamableSum end_of-Signed = Unit {0}
    IsRenamableSum (more_of-Signed minus e rest) = IsRenamable e × IsRenamableSum rest

    pub AreRenamableMembers : {m : _} → Row_of-Member m → Type 0
    AreRenamableMembers end_of-Member = Unit {0}
    AreRenamableMembers (more_of-Member (One e) rest) = IsRenamable e × AreRenamableMembers rest
    AreRenamableMembers (more_of-Member (SpanOf span at) rest) = AreRenamableMembers rest

    pub IsRenamableHeld : Condition → Type 0
    IsRenamableHeld None' = Unit {0}
    IsRenamableHeld (Some' shape cond) = AreRenamable cond

  -- the second bindings give the new name the value that the first give the variable, and every other name the same value
  abbrev pub RenamesBindings : Bindings → Bindings → Type 0
  RenamesBindings b c = (v : Value) × (find_name b var ≡ Some v) × (find_name c fresh ≡ Some v) × ((name : Name) → IsOtherName name → find_name c name ≡ find_name b name)
