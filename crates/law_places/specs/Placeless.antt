-- Trees without places: every offset is 0. Splits and uses, which say how something is proved and not what, are left out.
use Rattle.std.specs.Prelude.{[], map}
use Rattle.smv_core.specs.declared.tree.Word.{Word}
use Rattle.smv_core.specs.declared.tree.Text.{Text}
use Rattle.smv_core.specs.declared.tree.Top.{Top}
use Rattle.smv_core.specs.declared.tree.Top.TheVariants.{SetType, Alias, Module}
use Rattle.smv_core.specs.declared.tree.TypeExpr.{TypeExpr, Boolean, Range, Enum, Named, Array', Struct', Row_of-TypeExpr, end_of-TypeExpr, more_of-TypeExpr, Row_of-Field, end_of-Field, more_of-Field}
use Rattle.smv_core.specs.declared.tree.Path.{Path, roll-Path, out-Path}
use Rattle.smv_core.specs.declared.tree.Part.{Part, Field, At}
use Rattle.smv_core.specs.declared.tree.Member.{One, Span as SpanOf}
use Rattle.smv_core.specs.declared.tree.Expr.{Expr, Number, Signal', Not', And', Or', Implies', Iff', Compare', Within', Sum', Modulo', Choose', All', Any', List', Each', None', Some', Row_of-Expr, end_of-Expr, more_of-Expr, Row_of-Part, end_of-Part, more_of-Part, Row_of-Member, end_of-Member, more_of-Member, Row_of-Signed, end_of-Signed, more_of-Signed}
use Rattle.smv_core.specs.declared.tree.Stmt.{Stmt, Assign, Block', If', Switch', Default', For', Forall', Row_of-Stmt, end_of-Stmt, more_of-Stmt, Row_of-Arm, end_of-Arm, more_of-Arm}
use Rattle.smv_core.specs.declared.tree.Stmt as stmt
use Rattle.smv_core.specs.declared.tree.Item.{Item, Declare, Instance, Layer, Claim, Split, Using, Act, Row_of-Item, end_of-Item, more_of-Item}
use Rattle.smv_core.specs.declared.tree.Item as item
use Rattle.smv_core.specs.Rows.{Condition, Otherwise}

abbrev pub placeless_word : Word → Word
placeless_word word = record { name = word.name; at = 0 }

-- ---- types

unfoldable mutual
  pub placeless_type : TypeExpr → TypeExpr
  placeless_type Boolean = Boolean
  placeless_type (Range span at) = Range span 0
  placeless_type (Enum names at) = Enum (map placeless_word names) 0
  placeless_type (Named word at) = Named (placeless_word word) 0
  placeless_type (Array' i index o of) = Array' i (placeless_types index) o (placeless_types of)
  placeless_type (Struct' shape fields) = Struct' shape (placeless_fields fields)

  pub placeless_types : {m : _} → Row_of-TypeExpr m → Row_of-TypeExpr m
  placeless_types end_of-TypeExpr = end_of-TypeExpr
  placeless_types (more_of-TypeExpr t rest) = more_of-TypeExpr (placeless_type t) (placeless_types rest)

  pub placeless_fields : {m : _} → Row_of-Field m → Row_of-Field m
  placeless_fields end_of-Field = end_of-Field
  placeless_fields (more_of-Field names of at rest) = more_of-Field (map placeless_word names) (placeless_type of) 0 (placeless_fields rest)

-- ---- expressions

unfoldable mutual
  pub placeless : Expr → Expr
  placeless (Number value at) = Number value 0
  placeless (Signal' shape parts at) = Signal' shape (placeless_parts parts) 0
  placeless (Not' shape of at) = Not' shape (placeless_row of) 0
  placeless (And' shape parts) = And' shape (placeless_row parts)
  placeless (Or' shape parts) = Or' shape (placeless_row parts)
  placeless (Implies' shape parts) = Implies' shape (placeless_row parts)
  placeless (Iff' l left r right) = Iff' l (placeless_row left) r (placeless_row right)
  placeless (Compare' op l left r right) = Compare' op l (placeless_row left) r (placeless_row right)
  placeless (Within' l left r set) = Within' l (placeless_row left) r (placeless_row set)
  placeless (Sum' f first shape more) = Sum' f (placeless_row first) shape (placeless_sum more)
  placeless (Modulo' shape of by at) = Modulo' shape (placeless_row of) by 0
  placeless (Choose' c cond l left r right) = Choose' c (placeless_row cond) l (placeless_row left) r (placeless_row right)
  placeless (All' shape body word over at) = All' shape (placeless_row body) (placeless_word word) (placeless_type over) 0
  placeless (Any' shape body word over at) = Any' shape (placeless_row body) (placeless_word word) (placeless_type over) 0
  placeless (List' shape members at) = List' shape (placeless_members members) 0
  placeless (Each' word over cond at) = Each' (placeless_word word) (placeless_type over) (placeless_held cond) 0

  pub placeless_row : {m : _} → Row_of-Expr m → Row_of-Expr m
  placeless_row end_of-Expr = end_of-Expr
  placeless_row (more_of-Expr e rest) = more_of-Expr (placeless e) (placeless_row rest)

  pub placeless_parts : {m : _} → Row_of-Part m → Row_of-Part m
  placeless_parts end_of-Part = end_of-Part
  placeless_parts (more_of-Part (Field word) rest) = more_of-Part (Field (placeless_word word)) (placeless_parts rest)
  placeless_parts (more_of-Part (At index) rest) = more_of-Part (At (placeless index)) (placeless_parts rest)

  pub placeless_sum : {m : _} → Row_of-Signed m → Row_of-Signed m
  placeless_sum end_of-Signed = end_of-Signed
  placeless_sum (more_of-Signed minus e rest) = more_of-Signed minus (placeless e) (placeless_sum rest)

  pub placeless_members : {m : _} → Row_of-Member m → Row_of-Member m
  placeless_members end_of-Member = end_of-Member
  placeless_members (more_of-Member (One e) rest) = more_of-Member (One (placeless e)) (placeless_members rest)
  placeless_members (more_of-Member (SpanOf span at) rest) = more_of-Member (SpanOf span 0) (placeless_members rest)

  pub placeless_held : Condition → Condition
  placeless_held None' = None'
  placeless_held (Some' shape cond) = Some' shape (placeless_row cond)

abbrev pub placeless_part : Part → Part
placeless_part (Field word) = Field (placeless_word word)
placeless_part (At index) = At (placeless index)

abbrev pub placeless_path : Path → Path
placeless_path path = roll-Path (record { parts = map placeless_part (out-Path path).parts; at = 0 })

-- ---- statements

unfoldable mutual
  pub placeless_stmt : Stmt → Stmt
  placeless_stmt (Assign kind left value at) = Assign kind (placeless_path left) (placeless value) 0
  placeless_stmt (Block' shape parts) = Block' shape (placeless_stmts parts)
  placeless_stmt (If' cond l left right at) = If' (placeless cond) l (placeless_stmts left) (placeless_branch right) 0
  placeless_stmt (Switch' on shape arms other at) = Switch' (placeless on) shape (placeless_arms arms) (placeless_branch other) 0
  placeless_stmt (Default' l left r right at) = Default' l (placeless_stmts left) r (placeless_stmts right) 0
  placeless_stmt (For' word from to closed step shape body at) = For' (placeless_word word) from to closed step shape (placeless_stmts body) 0
  placeless_stmt (Forall' word over shape body at) = Forall' (placeless_word word) (placeless_type over) shape (placeless_stmts body) 0

  pub placeless_stmts : {m : _} → Row_of-Stmt m → Row_of-Stmt m
  placeless_stmts end_of-Stmt = end_of-Stmt
  placeless_stmts (more_of-Stmt part rest) = more_of-Stmt (placeless_stmt part) (placeless_stmts rest)

  pub placeless_branch : Otherwise → Otherwise
  placeless_branch stmt.None' = stmt.None'
  placeless_branch (stmt.Some' shape part) = stmt.Some' shape (placeless_stmts part)

  pub placeless_arms : {m : _} → Row_of-Arm m → Row_of-Arm m
  placeless_arms end_of-Arm = end_of-Arm
  placeless_arms (more_of-Arm labels body rest) = more_of-Arm (map placeless labels) (placeless_stmt body) (placeless_arms rest)

-- ---- items and texts

unfoldable mutual
  pub placeless_item : Item → Item
  placeless_item (Declare role names of at) = Declare role (map placeless_word names) (placeless_type of) 0
  placeless_item (Instance names m args at) = Instance (map placeless_word names) (placeless_word m) (map placeless args) 0
  placeless_item (Layer word body at) = Layer (placeless_word word) (map placeless_stmt body) 0
  placeless_item (item.Forall' word over shape body at) = item.Forall' (placeless_word word) (placeless_type over) shape (placeless_items body) 0
  placeless_item (item.Block' shape items) = item.Block' shape (placeless_items items)
  placeless_item (Claim word vars body at) = Claim (placeless_word word) (map placeless_word vars) (placeless body) 0
  placeless_item (Split word vars of pairs at) = Using [] [] 0
  placeless_item (Using uses proves at) = Using [] [] 0
  placeless_item (Act act) = Act (placeless_stmt act)

  pub placeless_items : {m : _} → Row_of-Item m → Row_of-Item m
  placeless_items end_of-Item = end_of-Item
  placeless_items (more_of-Item part rest) = more_of-Item (placeless_item part) (placeless_items rest)

abbrev pub placeless_top : Top → Top
placeless_top (SetType word ordered span at) = SetType (placeless_word word) ordered span 0
placeless_top (Alias word of at) = Alias (placeless_word word) (placeless_type of) 0
placeless_top (Module word formals body at) = Module (placeless_word word) (map placeless_word formals) (map placeless_item body) 0

abbrev pub placeless_text : Text → Text
placeless_text text = record { tops = map placeless_top text.tops }
