-- The grammar: one rule for each production, which also says the tree that is spelled.
--
-- A production is read within a number of levels that are left, and what stands inside an opened level is read by the rules `inner`, which have
-- one level fewer: this is the only recursion. The levels are each open bracket, each `~` up to the end of its operand, each conditional from its
-- `?` on, each `of` of a type, and each `if`, `switch`, `default`, `for` and `forall` statement or item.
use Rattle.std.specs.Prelude.{ℕ, zero, suc, Bool, true, false, List, [], ◌∷◌, Option, Some, None, ◌≡◌}
use Rattle.smv_core.specs.declared.tree.Word.{Word}
use Rattle.smv_core.specs.declared.tree.Span.{Span}
use Rattle.smv_core.specs.declared.tree.Expr.{Expr}
use Rattle.smv_core.specs.declared.tree.Expr.TheVariants as expr
use Rattle.smv_core.specs.declared.tree.Signed.{Signed, roll-Signed}
use Rattle.smv_core.specs.declared.tree.Member.{Member}
use Rattle.smv_core.specs.declared.tree.Member.TheVariants as member
use Rattle.smv_core.specs.declared.tree.Part.{Part}
use Rattle.smv_core.specs.declared.tree.Part.TheVariants as part
use Rattle.smv_core.specs.declared.tree.Path.{Path, roll-Path, out-Path}
use Rattle.smv_core.specs.declared.tree.Op.TheVariants as op
use Rattle.smv_core.specs.declared.tree.TypeExpr.{TypeExpr}
use Rattle.smv_core.specs.declared.tree.TypeExpr.TheVariants as type
use Rattle.smv_core.specs.declared.tree.Field.{Field, roll-Field}
use Rattle.smv_core.specs.declared.tree.Stmt.{Stmt}
use Rattle.smv_core.specs.declared.tree.Stmt.TheVariants as stmt
use Rattle.smv_core.specs.declared.tree.Arm.{Arm, roll-Arm}
use Rattle.smv_core.specs.declared.tree.Kind.TheVariants as kind
use Rattle.smv_core.specs.declared.tree.Item.{Item}
use Rattle.smv_core.specs.declared.tree.Item.TheVariants as item
use Rattle.smv_core.specs.declared.tree.Role.{Role}
use Rattle.smv_core.specs.declared.tree.Role.TheVariants as role
use Rattle.smv_core.specs.declared.tree.Pair.{Pair}
use Rattle.smv_core.specs.declared.tree.Ref.{Ref}
use Rattle.smv_core.specs.declared.tree.Use.{Use}
use Rattle.smv_core.specs.declared.tree.Use.TheVariants as uses
use Rattle.smv_core.specs.declared.tree.Top.{Top}
use Rattle.smv_core.specs.declared.tree.Top.TheVariants as top
use Rattle.smv_core.specs.declared.token.TokenKind.{TokenKind}
use Rattle.smv_core.specs.Signs.{open_paren, close_paren, open_bracket, close_bracket, open_brace, close_brace, colon, semicolon, comma, dot, dots, becomes}
use Rattle.smv_core.specs.Signs.{equal, differ, less, at_most, greater, at_least, plus, minus, tilde, ampersand, bar, arrow, double_arrow, question, slashes}
use Rattle.smv_core.specs.Signs as w
use Rattle.smv_core.specs.Notation.{Rule, never, nothing, ◌>>=◌, ◌>>◌, ◌<|>◌, many, optional, placed, one_of, token, name, number, same_name, positive, separated, separated_or_none, opener}
use Rattle.smv_core.specs.OpenIf.{ends_in_open_if}

-- ---- parts of trees

-- a number, its bound, whether the bound is reached, the step and the variable of a `for`
pub record Turns : Type 0 where
  pub var : Word
  pub from : ℕ
  pub to : ℕ
  pub closed : Bool
  pub step : ℕ

-- a name of a Ref, after a dot or in brackets
pub data RefPart : Type 0 where
  Dotted Bracketed : Word → RefPart

abbrev pub dotted : List RefPart → List Word
dotted [] = []
dotted (Dotted x ∷ more) = x ∷ dotted more
dotted (Bracketed x ∷ more) = dotted more

abbrev pub bracketed : List RefPart → List Word
bracketed [] = []
bracketed (Dotted x ∷ more) = bracketed more
bracketed (Bracketed x ∷ more) = x ∷ bracketed more

-- where a list of names begins
abbrev pub place_of : List Word → ℕ
place_of [] = 0
place_of (x ∷ more) = x.at

-- one value alone, or a chain of several
abbrev pub chain : (List Expr → Expr) → Expr → List Expr → Expr
chain make x [] = x
chain make x (y ∷ more) = make (x ∷ y ∷ more)

abbrev pub sum_of : Expr → List Signed → Expr
sum_of x [] = x
sum_of x (y ∷ more) = expr.Sum x (y ∷ more)

-- a name alone as a path, as a signal
abbrev pub named : Word → List Part → Path
named x more = roll-Path (record { parts = part.Field x ∷ more; at = x.at })

-- ---- what opens no level

-- number '..' number
abbrev pub span : Rule (Span × ℕ)
span = number >>= λ low. token dots >> number >>= λ high. nothing (record { low = low.0; high = high.0 }, low.1)

-- Index := 'boolean' | number '..' number | name
abbrev pub index : Rule TypeExpr
index =
    (token w.word_boolean >> nothing type.Boolean)
    <|> (span >>= λ s. nothing (type.Range s.0 s.1))
    <|> (name >>= λ x. nothing (type.Named x x.at))

-- Label := number | name
abbrev pub label : Rule Expr
label = (number >>= λ k. nothing (expr.Number k.0 k.1)) <|> (name >>= λ x. nothing (expr.Signal (named x [])))

-- what stands behind the `//` of a Ref: name, and in a Use also 'free'
abbrev pub layer_name : Rule (Option Word × Bool)
layer_name = name >>= λ l. nothing (Some l, false)

abbrev pub free : Rule (Option Word × Bool)
free = token w.word_free >> nothing (None, true)

-- 'undefined' | number '..' number
abbrev pub extent : Rule (Option Span × ℕ)
extent = (token w.word_undefined >>= λ at. nothing (None, at)) <|> (span >>= λ s. nothing (Some s.0, s.1))

-- ---- the levels

-- the rules for what stands inside an opened level
pub record Rules : Type 1 where
  pub expr : Rule Expr
  pub negation : Rule Expr
  pub member : Rule Member
  pub path : Rule Path
  pub type : Rule TypeExpr
  pub field : Rule Field
  pub condition : Rule Expr
  pub binder : Rule (Word × TypeExpr)
  pub stmt : Rule Stmt
  pub arms : Rule (List Arm × Option Stmt)
  pub turns : Rule Turns
  pub ref : Rule Ref
  pub item : Rule Item
  pub body : Rule Item

abbrev pub no_rules : Rules
no_rules = record {
  expr = never;
  negation = never;
  member = never;
  path = never;
  type = never;
  field = never;
  condition = never;
  binder = never;
  stmt = never;
  arms = never;
  turns = never;
  ref = never;
  item = never;
  body = never;
}

module _ (floor : ℕ → ℕ) (n : ℕ) (inner : Rules) where
  -- this sign or reserved word, which opens a level
  abbrev pub opening : TokenKind → Rule ℕ
  opening k = opener floor n k

  -- ---- types

  -- '{' name { ',' name } '}'
  abbrev pub enumeration : Rule TypeExpr
  enumeration = opening open_brace >>= λ at. separated name >>= λ names. token close_brace >> nothing (type.Enum names at)

  -- 'array' Index 'of' Type
  abbrev pub array : Rule TypeExpr
  array = token w.word_array >> index >>= λ over. opening w.word_of >> inner.type >>= λ of. nothing (type.Array over of)

  -- 'struct' '{' { Field } '}'
  abbrev pub structure : Rule TypeExpr
  structure = token w.word_struct >> opening open_brace >> many inner.field >>= λ fields. token close_brace >> nothing (type.Struct fields)

  -- Type := Index | '{' .. '}' | 'array' .. | 'struct' ..
  abbrev pub type_rule : Rule TypeExpr
  type_rule = index <|> enumeration <|> array <|> structure

  -- Field := name { ',' name } ':' Type ';'
  abbrev pub field_rule : Rule Field
  field_rule = separated name >>= λ names. token colon >> type_rule >>= λ of. token semicolon >> nothing (roll-Field (record { names = names; of = of; at = place_of names }))

  -- ---- paths

  -- '.' name | '[' Expr ']'
  abbrev pub part_rule : Rule Part
  part_rule =
      (token dot >> name >>= λ x. nothing (part.Field x))
      <|> (opening open_bracket >> inner.expr >>= λ x. token close_bracket >> nothing (part.At x))

  -- Path := name { '.' name | '[' Expr ']' }
  abbrev pub path_rule : Rule Path
  path_rule = name >>= λ x. many part_rule >>= λ more. nothing (named x more)

  -- ---- expressions

  -- '(' Expr ')', also as the condition of a statement
  abbrev pub condition_rule : Rule Expr
  condition_rule = opening open_paren >> inner.expr >>= λ x. token close_paren >> nothing x

  -- '{' Member { ',' Member } '}'
  abbrev pub listed : Rule Expr
  listed = opening open_brace >>= λ at. separated inner.member >>= λ members. token close_brace >> nothing (expr.List members at)

  -- '{' name ':' name 'in' Index [ ',' Expr ] '}', where the two names are equal
  abbrev pub comprehension : Rule Expr
  comprehension = opening open_brace >>= λ at. name >>= λ x. token colon >> same_name x >> token w.word_in >> index >>= λ over.
      optional (token comma >> inner.expr) >>= λ cond. token close_brace >> nothing (expr.Each x over cond at)

  -- Set := '{' Member { ',' Member } '}' | '{' name ':' name 'in' Index [ ',' Expr ] '}'
  abbrev pub set : Rule Expr
  set = listed <|> comprehension

  -- ( '&' | '|' ) '[' Expr ':' name 'in' Index ']'
  abbrev pub reduction : Rule Expr
  reduction = one_of ((ampersand, expr.All) ∷ (bar, expr.Any) ∷ []) >>= λ make. opening open_bracket >> inner.expr >>= λ x. token colon >> name >>= λ v.
      token w.word_in >> index >>= λ over. token close_bracket >> nothing (make.0 x v over make.1)

  -- Prim := number | Path | '(' Expr ')' | Set | ( '&' | '|' ) '[' Expr ':' name 'in' Index ']'
  abbrev pub prim : Rule Expr
  prim =
      (number >>= λ k. nothing (expr.Number k.0 k.1))
      <|> (path_rule >>= λ p. nothing (expr.Signal p))
      <|> condition_rule <|> set <|> reduction

  -- ( '+' | '-' ) Prim
  abbrev pub signed : Rule Signed
  signed = one_of ((plus, false) ∷ (minus, true) ∷ []) >>= λ sign. prim >>= λ x. nothing (roll-Signed (record { minus = sign.0; of = x }))

  -- Sum := Prim { ( '+' | '-' ) Prim }
  abbrev pub sum : Rule Expr
  sum = prim >>= λ x. many signed >>= λ more. nothing (sum_of x more)

  -- Mod := Sum [ 'mod' number ]
  abbrev pub modulo : Rule Expr
  modulo = sum >>= λ x. (token w.word_mod >> number >>= λ k. nothing (expr.Modulo x k.0 k.1)) <|> nothing x

  -- Cmp := Mod [ ( '=' | '~=' | '<' | '<=' | '>' | '>=' ) Mod | 'in' Set ]
  abbrev pub comparison : Rule Expr
  comparison = modulo >>= λ x.
      (one_of ((equal, op.Equal) ∷ (differ, op.Differ) ∷ (less, op.Less) ∷ (at_most, op.AtMost) ∷ (greater, op.Greater) ∷ (at_least, op.AtLeast) ∷ []) >>= λ o.
      modulo >>= λ y. nothing (expr.Compare o.0 x y))
      <|> (token w.word_in >> set >>= λ s. nothing (expr.Within x s))
      <|> nothing x

  -- Not := '~' Not | Cmp
  abbrev pub negation_rule : Rule Expr
  negation_rule = (opening tilde >>= λ at. inner.negation >>= λ x. nothing (expr.Not x at)) <|> comparison

  -- X { sign X }
  abbrev pub chained : TokenKind → (List Expr → Expr) → Rule Expr → Rule Expr
  chained k make r = r >>= λ x. many (token k >> r) >>= λ more. nothing (chain make x more)

  -- And := Not { '&' Not }
  abbrev pub conjunction : Rule Expr
  conjunction = chained ampersand expr.And negation_rule

  -- Or := And { '|' And }
  abbrev pub disjunction : Rule Expr
  disjunction = chained bar expr.Or conjunction

  -- Imp := Or { '->' Or }
  abbrev pub implication : Rule Expr
  implication = chained arrow expr.Implies disjunction

  -- Iff := Imp [ '<->' Imp ]
  abbrev pub equivalence : Rule Expr
  equivalence = implication >>= λ x. (token double_arrow >> implication >>= λ y. nothing (expr.Iff x y)) <|> nothing x

  -- Expr := Iff [ '?' Expr ':' Expr ]
  abbrev pub expr_rule : Rule Expr
  expr_rule = equivalence >>= λ c. (opening question >> inner.expr >>= λ x. token colon >> inner.expr >>= λ y. nothing (expr.Choose c x y)) <|> nothing c

  -- Member := Expr | number '..' number
  abbrev pub member_rule : Rule Member
  member_rule = (expr_rule >>= λ x. nothing (member.One x)) <|> (span >>= λ s. nothing (member.Span s.0 s.1))

  -- ---- statements

  -- the parentheses of a Binder: '(' name 'in' Index ')'
  abbrev pub binder_rule : Rule (Word × TypeExpr)
  binder_rule = opening open_paren >> name >>= λ x. token w.word_in >> index >>= λ over. token close_paren >> nothing (x, over)

  -- ':=' Expr ';'
  abbrev pub value : Rule Expr
  value = token becomes >> expr_rule >>= λ x. token semicolon >> nothing x

  -- Path ':=' Expr ';'
  abbrev pub assignment : Rule Stmt
  assignment = path_rule >>= λ p. value >>= λ x. nothing (stmt.Assign kind.Comb p x (out-Path p).at)

  -- ( 'init' | 'next' ) '(' Path ')' ':=' Expr ';'
  abbrev pub timed : Rule Stmt
  timed = one_of ((w.word_init, kind.Init) ∷ (w.word_next, kind.Next) ∷ []) >>= λ k. opening open_paren >> inner.path >>= λ p. token close_paren >>
      value >>= λ x. nothing (stmt.Assign k.0 p x k.1)

  -- 'else' Stmt, which belongs to the nearest `if`: what stands before it is no statement to which it would belong
  abbrev pub otherwise : Stmt → Rule Stmt
  otherwise first ts second rest = (ends_in_open_if first ≡ false) × (token w.word_else >> inner.stmt) ts second rest

  -- 'if' '(' Expr ')' Stmt [ 'else' Stmt ]
  abbrev pub if_rule : Rule Stmt
  if_rule = opening w.word_if >>= λ at. inner.condition >>= λ c. inner.stmt >>= λ x. optional (otherwise x) >>= λ y. nothing (stmt.If c x y at)

  -- Arm := Label { ',' Label } ':' Stmt
  abbrev pub arm : Rule Arm
  arm = separated label >>= λ labels. token colon >> inner.stmt >>= λ body. nothing (roll-Arm (record { labels = labels; body = body }))

  -- '{' { Arm } [ 'default' ':' Stmt ] '}'
  abbrev pub arms_rule : Rule (List Arm × Option Stmt)
  arms_rule = opening open_brace >> many arm >>= λ arms. optional (token w.word_default >> token colon >> inner.stmt) >>= λ other. token close_brace >> nothing (arms, other)

  -- 'switch' '(' Expr ')' '{' { Arm } [ 'default' ':' Stmt ] '}'
  abbrev pub switch : Rule Stmt
  switch = opening w.word_switch >>= λ at. inner.condition >>= λ x. inner.arms >>= λ a. nothing (stmt.Switch x a.0 a.1 at)

  -- 'default' Stmt 'in' Stmt
  abbrev pub default : Rule Stmt
  default = opening w.word_default >>= λ at. inner.stmt >>= λ x. token w.word_in >> inner.stmt >>= λ y. nothing (stmt.Default x y at)

  -- '(' name '=' number ';' name ( '<' | '<=' ) number ';' name '=' name '+' number ')', where the names are equal and the step is at least 1
  abbrev pub turns_rule : Rule Turns
  turns_rule = opening open_paren >> name >>= λ x. token equal >> number >>= λ from. token semicolon >>
      same_name x >> one_of ((less, false) ∷ (at_most, true) ∷ []) >>= λ closed. number >>= λ to. token semicolon >>
      same_name x >> token equal >> same_name x >> token plus >> positive >>= λ step. token close_paren >>
      nothing (record { var = x; from = from.0; to = to.0; closed = closed.0; step = step })

  -- 'for' '(' .. ')' Stmt
  abbrev pub for : Rule Stmt
  for = opening w.word_for >>= λ at. inner.turns >>= λ t. inner.stmt >>= λ body. nothing (stmt.For t.var t.from t.to t.closed t.step body at)

  -- Simple
  abbrev pub simple : Rule Stmt
  simple = assignment <|> timed <|> if_rule <|> switch <|> default <|> for

  -- Stmt := Binder Stmt | '{' { Stmt } '}' | Simple
  abbrev pub stmt_rule : Rule Stmt
  stmt_rule =
      (opening w.word_forall >>= λ at. inner.binder >>= λ b. inner.stmt >>= λ body. nothing (stmt.Forall b.0 b.1 body at))
      <|> (opening open_brace >> many inner.stmt >>= λ parts. token close_brace >> nothing (stmt.Block parts))
      <|> simple

  -- ---- references

  -- '[' name ']'
  abbrev pub in_brackets : Rule Word
  in_brackets = opening open_bracket >> name >>= λ x. token close_bracket >> nothing x

  -- '.' name | '[' name ']'
  abbrev pub ref_part : Rule RefPart
  ref_part = (token dot >> name >>= λ x. nothing (Dotted x)) <|> (in_brackets >>= λ x. nothing (Bracketed x))

  -- name { '.' name | '[' name ']' }, and then a layer or none, or `free`
  abbrev pub ref_by : Rule (Option Word × Bool) → Rule Ref
  ref_by layer = name >>= λ x. many ref_part >>= λ parts. layer >>= λ l.
      nothing (record { path = x ∷ dotted parts; names = bracketed parts; layer = l.0; free = l.1; at = x.at })

  -- Ref := name { '.' name | '[' name ']' } [ '//' name ], where no `free` may stand
  abbrev pub ref : Rule Ref
  ref = ref_by ((token slashes >> layer_name) <|> nothing (None, false))

  -- Ref := name { '.' name | '[' name ']' } [ '//' ( name | 'free' ) ], in a Use
  abbrev pub ref_rule : Rule Ref
  ref_rule = ref_by ((token slashes >> (layer_name <|> free)) <|> nothing (None, false))

  -- Use := Ref | '(' Ref ')' | name '->' '{' [ name { ',' name } ] '}'
  abbrev pub use_rule : Rule Use
  use_rule =
      (ref_rule >>= λ r. nothing (uses.Plain r))
      <|> (opening open_paren >> inner.ref >>= λ r. token close_paren >> nothing (uses.Early r))
      <|> (name >>= λ x. token arrow >> opening open_brace >> separated_or_none name >>= λ names. token close_brace >> nothing (uses.Keep x names x.at))

  -- ---- items

  -- Claim := name { '[' name ']' } ':' 'assert' 'G' Expr ';'
  abbrev pub claim : Rule Item
  claim = name >>= λ x. many in_brackets >>= λ vars. token colon >> token w.word_assert >> token w.word_G >> expr_rule >>= λ body. token semicolon >>
      nothing (item.Claim x vars body x.at)

  -- Sum '=' name
  abbrev pub pair : Rule Pair
  pair = placed sum >>= λ x. token equal >> name >>= λ y. nothing (record { left = x.0; right = y; at = x.1 })

  -- Split := 'subcase' name { '[' name ']' } 'of' Ref 'for' Sum '=' name { ',' Sum '=' name } ';'
  abbrev pub split : Rule Item
  split = token w.word_subcase >>= λ at. name >>= λ x. many in_brackets >>= λ vars. token w.word_of >> ref >>= λ of. token w.word_for >> separated pair >>= λ pairs. token semicolon >>
      nothing (item.Split x vars of pairs at)

  -- Using := 'using' Use { ',' Use } 'prove' Ref { ',' Ref } ';'
  abbrev pub using : Rule Item
  using = token w.word_using >>= λ at. separated use_rule >>= λ us. token w.word_prove >> separated ref >>= λ proves. token semicolon >> nothing (item.Using us proves at)

  -- Item := Binder Item | '{' { Item } '}' | Claim | Split | Using | Simple
  abbrev pub item_rule : Rule Item
  item_rule =
      (opening w.word_forall >>= λ at. inner.binder >>= λ b. inner.item >>= λ body. nothing (item.Forall b.0 b.1 body at))
      <|> (opening open_brace >> many inner.item >>= λ items. token close_brace >> nothing (item.Block items))
      <|> claim <|> split <|> using
      <|> (simple >>= λ x. nothing (item.Act x))

  -- name { ',' name } ':' Type ';', with a role and a place that depends on the names
  abbrev pub declared : Role → (List Word → ℕ) → Rule Item
  declared how at = separated name >>= λ names. token colon >> type_rule >>= λ of. token semicolon >> nothing (item.Declare how names of (at names))

  -- [ 'abstract' | 'input' | 'output' ] name { ',' name } ':' Type ';'
  abbrev pub declaration : Rule Item
  declaration =
      (one_of ((w.word_abstract, role.Abstract) ∷ (w.word_input, role.Input) ∷ (w.word_output, role.Output) ∷ []) >>= λ r. declared r.0 (λ names. r.1))
      <|> declared role.Plain place_of

  -- name { ',' name } ':' name '(' [ Expr { ',' Expr } ] ')' ';'
  abbrev pub instance : Rule Item
  instance = separated name >>= λ names. token colon >> name >>= λ m. opening open_paren >> separated_or_none inner.expr >>= λ args. token close_paren >> token semicolon >>
      nothing (item.Instance names m args (place_of names))

  -- 'layer' name ':' '{' { Stmt } '}'
  abbrev pub layer : Rule Item
  layer = token w.word_layer >>= λ at. name >>= λ x. token colon >> opening open_brace >> many inner.stmt >>= λ body. token close_brace >> nothing (item.Layer x body at)

  -- Body := a declaration | an instance | a layer | Item
  abbrev pub body_rule : Rule Item
  body_rule = declaration <|> instance <|> layer <|> item_rule

  -- ---- the text

  -- Top := 'scalarset' name ( 'undefined' | number '..' number ) ';' | 'ordset' name 'undefined' ';' | 'typedef' name Type ';'
  --     | 'module' name '(' [ name { ',' name } ] ')' '{' { Body } '}'
  abbrev pub top_rule : Rule Top
  top_rule =
      (token w.word_scalarset >> name >>= λ x. extent >>= λ s. token semicolon >> nothing (top.SetType x false s.0 s.1))
      <|> (token w.word_ordset >> name >>= λ x. token w.word_undefined >>= λ at. token semicolon >> nothing (top.SetType x true None at))
      <|> (token w.word_typedef >>= λ at. name >>= λ x. type_rule >>= λ of. token semicolon >> nothing (top.Alias x of at))
      <|> (token w.word_module >>= λ at. name >>= λ x. opening open_paren >> separated_or_none name >>= λ formals. token close_paren >>
      opening open_brace >> many inner.body >>= λ items. token close_brace >> nothing (top.Module x formals items at))

  abbrev pub rules : Rules
  rules = record {
    expr = expr_rule;
    negation = negation_rule;
    member = member_rule;
    path = path_rule;
    type = type_rule;
    field = field_rule;
    condition = condition_rule;
    binder = binder_rule;
    stmt = stmt_rule;
    arms = arms_rule;
    turns = turns_rule;
    ref = ref_rule;
    item = item_rule;
    body = body_rule;
  }

-- the rules where fewer levels are left than this
abbrev pub below : (ℕ → ℕ) → ℕ → Rules
below floor zero = no_rules
below floor (suc n) = rules floor n (below floor n)

-- Text := { Top }
abbrev pub text_rule : (ℕ → ℕ) → ℕ → Rule (List Top)
text_rule floor n = many (top_rule floor n (below floor n))
