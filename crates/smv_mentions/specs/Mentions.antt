-- What a text says about names: its declarations, its variables and all uses of names, in the order in which they are written.
use Rattle.std.specs.Str.{bytes_eq}
use Rattle.smv_core.specs.Values.{Name}
use Rattle.std.specs.Prelude.{ℕ, Option, Some, None, min, if◌then◌else◌, List, [], ◌∷◌, ◌++◌, map, flat_map, length}
use Rattle.smv_core.specs.declared.tree.Word.{Word}
use Rattle.smv_core.specs.declared.tree.TypeExpr.{TypeExpr, Boolean, Range, Enum, Named, Array', Struct', Row_of-Field, end_of-Field, more_of-Field}
use Rattle.smv_core.specs.declared.tree.Role.{Role}
use Rattle.smv_core.specs.declared.tree.Path.{Path, out-Path}
use Rattle.smv_core.specs.declared.tree.Part.{Part, Field, At}
use Rattle.smv_core.specs.declared.tree.Signed.{Signed, out-Signed}
use Rattle.smv_core.specs.declared.tree.Arm.{Arm, out-Arm}
use Rattle.smv_core.specs.declared.tree.Member.{Member, One, Span as SpanOf}
use Rattle.smv_core.specs.declared.tree.Expr.{Expr, Number, Signal', Not', And', Or', Implies', Iff', Compare', Within', Sum', Modulo', Choose', All', Any', List', Each', None', Some', Row_of-Expr, end_of-Expr, more_of-Expr, Row_of-Part, end_of-Part, more_of-Part, Row_of-Member, end_of-Member, more_of-Member, Row_of-Signed, end_of-Signed, more_of-Signed, items-the_row-Part}
use Rattle.smv_core.specs.declared.tree.Stmt.{Stmt, Assign, Block', If', Switch', Default', For', Forall', Row_of-Stmt, end_of-Stmt, more_of-Stmt, Row_of-Arm, end_of-Arm, more_of-Arm}
use Rattle.smv_core.specs.declared.tree.Stmt as stmt
use Rattle.smv_core.specs.declared.tree.Item.{Item, Declare, Instance, Layer, Claim, Split, Using, Act, Row_of-Item, end_of-Item, more_of-Item}
use Rattle.smv_core.specs.declared.tree.Item as item
use Rattle.smv_core.specs.Rows.{one_expr, one_stmt, one_type, Condition, Otherwise}

-- what a name of a module is: a signal of a role and a type, an instance of a module, or a claim or split
pub data What : Type 0 where
  signal : Role → TypeExpr → What
  instance : Word → What
  goal : What

-- one thing that is said about names
pub data Mention : Type 0 where
  -- the module's own name is this
  declares : Word → What → Mention
  -- a variable is bound; and where a variable around it of the same name is first bound
  binds : Option ℕ → Word → Mention
  -- a path is read or assigned; and where a variable around it of its first name is first bound
  follows : Option ℕ → List Part → Mention
  -- a type is named
  names_type : Word → Mention
  -- an enumeration lists these constants
  lists_constants : List Word → Mention
  -- a struct has these fields
  has_fields : List Word → Mention
  -- a module has an instance, with so many arguments
  instantiates : Word → ℕ → Mention

-- ---- variables

-- the first of a place and others
abbrev pub first_place : ℕ → Option ℕ → ℕ
first_place at None = at
first_place at (Some other) = min at other

-- where a variable of this name is bound first, among these variables
abbrev pub bound_at : List Word → Name → Option ℕ
bound_at [] name = None
bound_at (var ∷ vars) name = if bytes_eq var.name name then Some (first_place var.at (bound_at vars name)) else bound_at vars name

-- a path, inside these variables
abbrev pub path_in : List Word → List Part → Mention
path_in vars [] = follows None []
path_in vars (At index ∷ parts) = follows None (At index ∷ parts)
path_in vars (Field word ∷ parts) = follows (bound_at vars word.name) (Field word ∷ parts)

-- a variable, inside these variables
abbrev pub binder_in : List Word → Word → Mention
binder_in vars var = binds (bound_at vars var.name) var

-- ---- types

-- the names of all fields of a struct
abbrev pub fields_in : {m : _} → Row_of-Field m → List Word
fields_in end_of-Field = []
fields_in (more_of-Field names of at rest) = names ++ fields_in rest

unfoldable mutual
  -- what a type says
  pub in_type : TypeExpr → List Mention
  in_type Boolean = []
  in_type (Range span at) = []
  in_type (Enum names at) = lists_constants names ∷ []
  in_type (Named word at) = names_type word ∷ []
  in_type (Array' i (one_type index) o (one_type of)) = in_type index ++ in_type of
  in_type (Struct' shape fields) = has_fields (fields_in fields) ∷ in_fields fields

  pub in_fields : {m : _} → Row_of-Field m → List Mention
  in_fields end_of-Field = []
  in_fields (more_of-Field names of at rest) = in_type of ++ in_fields rest

-- ---- expressions

unfoldable mutual
  -- what an expression says that stands inside these variables, the innermost last
  pub in_expr : List Word → Expr → List Mention
  in_expr vars (Number value at) = []
  in_expr vars (Signal' shape parts at) = path_in vars (items-the_row-Part _ parts) ∷ in_parts vars parts
  in_expr vars (Not' shape (one_expr e) at) = in_expr vars e
  in_expr vars (And' shape parts) = in_row vars parts
  in_expr vars (Or' shape parts) = in_row vars parts
  in_expr vars (Implies' shape parts) = in_row vars parts
  in_expr vars (Iff' l (one_expr left) r (one_expr right)) = in_expr vars left ++ in_expr vars right
  in_expr vars (Compare' op l (one_expr left) r (one_expr right)) = in_expr vars left ++ in_expr vars right
  in_expr vars (Within' l (one_expr left) r (one_expr set)) = in_expr vars left ++ in_expr vars set
  in_expr vars (Sum' f (one_expr first) shape more) = in_expr vars first ++ in_sum vars more
  in_expr vars (Modulo' shape (one_expr e) by at) = in_expr vars e
  in_expr vars (Choose' c (one_expr cond) l (one_expr left) r (one_expr right)) = in_expr vars cond ++ in_expr vars left ++ in_expr vars right
  in_expr vars (All' shape (one_expr body) var over at) = in_expr (vars ++ var ∷ []) body ++ binder_in vars var ∷ in_type over
  in_expr vars (Any' shape (one_expr body) var over at) = in_expr (vars ++ var ∷ []) body ++ binder_in vars var ∷ in_type over
  in_expr vars (List' shape members at) = in_members vars members
  in_expr vars (Each' var over cond at) = binder_in vars var ∷ in_type over ++ in_held (vars ++ var ∷ []) cond

  pub in_row : {m : _} → List Word → Row_of-Expr m → List Mention
  in_row vars end_of-Expr = []
  in_row vars (more_of-Expr e rest) = in_expr vars e ++ in_row vars rest

  -- the indexes of a path
  pub in_parts : {m : _} → List Word → Row_of-Part m → List Mention
  in_parts vars end_of-Part = []
  in_parts vars (more_of-Part (Field word) rest) = in_parts vars rest
  in_parts vars (more_of-Part (At index) rest) = in_expr vars index ++ in_parts vars rest

  pub in_sum : {m : _} → List Word → Row_of-Signed m → List Mention
  in_sum vars end_of-Signed = []
  in_sum vars (more_of-Signed minus e rest) = in_expr vars e ++ in_sum vars rest

  pub in_members : {m : _} → List Word → Row_of-Member m → List Mention
  in_members vars end_of-Member = []
  in_members vars (more_of-Member (One e) rest) = in_expr vars e ++ in_members vars rest
  in_members vars (more_of-Member (SpanOf span at) rest) = in_members vars rest

  -- the condition of a comprehension, or none
  pub in_held : List Word → Condition → List Mention
  in_held vars None' = []
  in_held vars (Some' shape (one_expr cond)) = in_expr vars cond

-- a part of a path, a member of a set, and what a sum adds
abbrev pub in_part : List Word → Part → List Mention
in_part vars (Field word) = []
in_part vars (At index) = in_expr vars index

abbrev pub in_member : List Word → Member → List Mention
in_member vars (One e) = in_expr vars e
in_member vars (SpanOf span at) = []

abbrev pub in_signed : List Word → Signed → List Mention
in_signed vars x = in_expr vars (out-Signed x).of

-- a path, and the indexes in it
unfoldable pub in_path : List Word → Path → List Mention
in_path vars path = path_in vars (out-Path path).parts ∷ flat_map (in_part vars) (out-Path path).parts

-- ---- statements

unfoldable mutual
  -- what a statement says inside these variables
  pub in_stmt : List Word → Stmt → List Mention
  in_stmt vars (Assign kind left value at) = in_path vars left ++ in_expr vars value
  in_stmt vars (Block' shape parts) = in_block vars parts
  in_stmt vars (If' cond l (one_stmt left) right at) = in_expr vars cond ++ in_stmt vars left ++ in_branch vars right
  in_stmt vars (Switch' on shape arms other at) = in_expr vars on ++ in_arms vars arms ++ in_branch vars other
  in_stmt vars (Default' l (one_stmt left) r (one_stmt right) at) = in_stmt vars left ++ in_stmt vars right
  in_stmt vars (For' var from to closed step shape (one_stmt body) at) = binder_in vars var ∷ in_stmt (vars ++ var ∷ []) body
  in_stmt vars (Forall' var over shape (one_stmt body) at) = binder_in vars var ∷ in_type over ++ in_stmt (vars ++ var ∷ []) body

  pub in_block : {m : _} → List Word → Row_of-Stmt m → List Mention
  in_block vars end_of-Stmt = []
  in_block vars (more_of-Stmt part rest) = in_stmt vars part ++ in_block vars rest

  -- an `else` or `default`, or none
  pub in_branch : List Word → Otherwise → List Mention
  in_branch vars stmt.None' = []
  in_branch vars (stmt.Some' shape (one_stmt part)) = in_stmt vars part

  pub in_arms : {m : _} → List Word → Row_of-Arm m → List Mention
  in_arms vars end_of-Arm = []
  in_arms vars (more_of-Arm labels body rest) = flat_map (in_expr vars) labels ++ in_stmt vars body ++ in_arms vars rest

-- an arm of a `switch`, and an `else` or `default` or none
abbrev pub in_arm : List Word → Arm → List Mention
in_arm vars x = flat_map (in_expr vars) (out-Arm x).labels ++ in_stmt vars (out-Arm x).body

abbrev pub in_other : List Word → Option Stmt → List Mention
in_other vars None = []
in_other vars (Some x) = in_stmt vars x

-- ---- items

-- each of these names is declared so
abbrev pub declared_as : What → List Word → List Mention
declared_as what words = map (λ word. declares word what) words

unfoldable mutual
  -- What an item says inside these variables. The names in the brackets of claims and splits, in references to units and behind `using` are no names of signals.
  pub in_item : List Word → Item → List Mention
  in_item vars (Declare role words of at) = declared_as (signal role of) words ++ in_type of
  in_item vars (Instance words name args at) = declared_as (instance name) words ++ instantiates name (length args) ∷ flat_map (in_expr vars) args
  in_item vars (Layer word body at) = flat_map (in_stmt vars) body
  in_item vars (item.Forall' var over shape (more_of-Item body end_of-Item) at) = binder_in vars var ∷ in_type over ++ in_item (vars ++ var ∷ []) body
  in_item vars (item.Block' shape items) = in_items vars items
  in_item vars (Claim word brackets body at) = declares word goal ∷ in_expr vars body
  in_item vars (Split word brackets of pairs at) = declares word goal ∷ flat_map (λ pair. in_expr vars pair.left) pairs
  in_item vars (Using uses proves at) = []
  in_item vars (Act act) = in_stmt vars act

  pub in_items : {m : _} → List Word → Row_of-Item m → List Mention
  in_items vars end_of-Item = []
  in_items vars (more_of-Item part rest) = in_item vars part ++ in_items vars rest
