-- Each rule of the grammar keeps to tokens that a text can have.
use Rattle.std.proofs.Common.{ℕ, zero, suc, Bool, true, false, List, [], ◌∷◌, Option, None}
use Rattle.smv_core.specs.declared.token.TokenKind.{TokenKind}
use Rattle.smv_core.specs.declared.tree.Word.{Word}
use Rattle.smv_core.specs.declared.tree.Span.{Span}
use Rattle.smv_core.specs.declared.tree.TypeExpr.{TypeExpr}
use Rattle.smv_core.specs.declared.tree.TypeExpr.TheVariants as type
use Rattle.smv_core.specs.declared.tree.Expr.{Expr}
use Rattle.smv_core.specs.declared.tree.Expr.TheVariants as expr
use Rattle.smv_core.specs.declared.tree.Path.{out-Path}
use Rattle.smv_core.specs.declared.tree.Op.TheVariants as op
use Rattle.smv_core.specs.declared.tree.Stmt.{Stmt}
use Rattle.smv_core.specs.declared.tree.Arm.{Arm}
use Rattle.smv_core.specs.declared.tree.Kind.TheVariants as kind
use Rattle.smv_core.specs.declared.tree.Role.{Role}
use Rattle.smv_core.specs.declared.tree.Role.TheVariants as role
use Rattle.smv_core.specs.Signs.{open_paren, close_paren, open_bracket, close_bracket, open_brace, close_brace, colon, semicolon, comma, dot, dots, becomes}
use Rattle.smv_core.specs.Signs.{equal, differ, less, at_most, greater, at_least, plus, minus, tilde, ampersand, bar, arrow, double_arrow, question, slashes}
use Rattle.smv_core.specs.Signs as w
use Rattle.smv_core.specs.Notation.{Rule}
use Rattle.smv_core.specs.Grammar as g
use Rattle.smv_core.specs.Grammar.{Turns, RefPart, Dotted, Bracketed, Rules}
use Rattle.law_print_and_parse.proofs.Good.{IsNumber, Each}
use Rattle.law_print_and_parse.proofs.Keeping.{Keeps, Any, Named, IfAny, keeps-never, keeps-nothing, keeps-bind, keeps-then, keeps-or, keeps-many, keeps-optional, keeps-when, keeps-placed, keeps-token, keeps-name, keeps-number, keeps-one_of, keeps-opener, keeps-same_name, keeps-positive, keeps-separated, keeps-separated_or_none}
use Rattle.law_print_and_parse.proofs.TypeTokens.{GoodType, GoodField, GoodSpan, good-span, type-boolean, type-range, type-enum, type-named, type-array, type-struct, field-good}
use Rattle.law_print_and_parse.proofs.ExpressionTokens.{GoodExpr, GoodMember, GoodPart, GoodPath, GoodSigned, part-field, part-at, path-named, expr-number, expr-signal, expr-not, expr-and, expr-or, expr-implies, expr-chain, expr-iff, expr-compare, expr-within, expr-sum_of, signed-good, expr-modulo, expr-choose, expr-all, expr-any, expr-list, expr-each, member-one, member-span}
use Rattle.law_print_and_parse.proofs.StatementTokens.{GoodStmt, GoodArm, stmt-assign, stmt-block, stmt-if, stmt-switch, stmt-default, stmt-for, stmt-forall, arm-good}
use Rattle.law_print_and_parse.proofs.ItemTokens.{GoodRef, GoodUse, GoodPair, GoodItem, GoodTop, ref-good, use-plain, use-early, use-keep, pair-good, item-declare, item-instance, item-layer, item-forall, item-block, item-claim, item-split, item-using, item-act, top-set_type, top-alias, top-module}

-- ---- what opens no level

pub keeps-span : Keeps (λ (s : Span × ℕ). GoodSpan s.0) g.span
keeps-span = keeps-bind keeps-number (λ low a. keeps-then (keeps-token dots) (keeps-bind keeps-number (λ high b. keeps-nothing _ (good-span low.0 high.0 a b))))

pub keeps-index : Keeps GoodType g.index
keeps-index =
    keeps-or (keeps-then (keeps-token w.word_boolean) (keeps-nothing type.Boolean type-boolean))
    (keeps-or (keeps-bind keeps-span (λ s good. keeps-nothing _ (type-range s.0 s.1 good))) (keeps-bind keeps-name (λ x name. keeps-nothing _ (type-named x x.at name))))

pub keeps-label : Keeps GoodExpr g.label
keeps-label =
    keeps-or (keeps-bind keeps-number (λ k few. keeps-nothing _ (expr-number k.0 k.1 few)))
    (keeps-bind keeps-name (λ x name. keeps-nothing _ (expr-signal (g.named x []) (path-named x [] name tt))))

-- the name of a layer or none, and whether `free` stands there
abbrev GoodLayer : Option Word × Bool → Type 0
GoodLayer l = IfAny Named l.0

keeps-layer_name : Keeps GoodLayer g.layer_name
keeps-layer_name = keeps-bind keeps-name (λ l name. keeps-nothing _ name)

keeps-free : Keeps GoodLayer g.free
keeps-free = keeps-then (keeps-token w.word_free) (keeps-nothing _ tt)

abbrev GoodExtent : Option Span × ℕ → Type 0
GoodExtent s = IfAny GoodSpan s.0

keeps-extent : Keeps GoodExtent g.extent
keeps-extent = keeps-or (keeps-bind (keeps-token w.word_undefined) (λ at any. keeps-nothing _ tt)) (keeps-bind keeps-span (λ s good. keeps-nothing _ good))

-- ---- the levels

abbrev GoodBinder : Word × TypeExpr → Type 0
GoodBinder b = Named b.0 × GoodType b.1

abbrev GoodArms : List Arm × Option Stmt → Type 0
GoodArms a = Each GoodArm a.0 × IfAny GoodStmt a.1

abbrev GoodTurns : Turns → Type 0
GoodTurns t = Named t.var × IsNumber t.from × IsNumber t.to × IsNumber t.step

-- the name of a part of a reference
abbrev GoodRefPart : RefPart → Type 0
GoodRefPart (Dotted x) = Named x
GoodRefPart (Bracketed x) = Named x

-- what the rules for what stands inside an opened level keep
pub record GoodRules (r : Rules) : Type 0 where
  pub expr : Keeps GoodExpr r.expr
  pub negation : Keeps GoodExpr r.negation
  pub member : Keeps GoodMember r.member
  pub path : Keeps GoodPath r.path
  pub type : Keeps GoodType r.type
  pub field : Keeps GoodField r.field
  pub condition : Keeps GoodExpr r.condition
  pub binder : Keeps GoodBinder r.binder
  pub stmt : Keeps GoodStmt r.stmt
  pub arms : Keeps GoodArms r.arms
  pub turns : Keeps GoodTurns r.turns
  pub ref : Keeps GoodRef r.ref
  pub item : Keeps GoodItem r.item
  pub body : Keeps GoodItem r.body

no-rules : GoodRules g.no_rules
no-rules = record {
  expr = keeps-never;
  negation = keeps-never;
  member = keeps-never;
  path = keeps-never;
  type = keeps-never;
  field = keeps-never;
  condition = keeps-never;
  binder = keeps-never;
  stmt = keeps-never;
  arms = keeps-never;
  turns = keeps-never;
  ref = keeps-never;
  item = keeps-never;
  body = keeps-never;
}

good-dotted : (parts : List RefPart) → Each GoodRefPart parts → Each Named (g.dotted parts)
good-dotted [] all = tt
good-dotted (Dotted x ∷ more) all = (all.0, good-dotted more all.1)
good-dotted (Bracketed x ∷ more) all = good-dotted more all.1

good-bracketed : (parts : List RefPart) → Each GoodRefPart parts → Each Named (g.bracketed parts)
good-bracketed [] all = tt
good-bracketed (Dotted x ∷ more) all = good-bracketed more all.1
good-bracketed (Bracketed x ∷ more) all = (all.0, good-bracketed more all.1)

module _ (floor : ℕ → ℕ) (n : ℕ) (inner : Rules) (ok : GoodRules inner) where
  opening : (k : TokenKind) → Keeps Any (g.opening floor n inner k)
  opening k = keeps-opener floor n k

  -- ---- types

  enumeration : Keeps GoodType (g.enumeration floor n inner)
  enumeration = keeps-bind (opening open_brace) (λ at any. keeps-bind (keeps-separated keeps-name) (λ names all. keeps-then (keeps-token close_brace) (keeps-nothing _ (type-enum names at all))))

  array : Keeps GoodType (g.array floor n inner)
  array = keeps-then (keeps-token w.word_array) (keeps-bind keeps-index (λ over left. keeps-then (opening w.word_of) (keeps-bind ok.type (λ of right. keeps-nothing _ (type-array over of left right)))))

  structure : Keeps GoodType (g.structure floor n inner)
  structure =
      keeps-then (keeps-token w.word_struct)
      (keeps-then (opening open_brace) (keeps-bind (keeps-many ok.field) (λ fields all. keeps-then (keeps-token close_brace) (keeps-nothing _ (type-struct fields all)))))

  pub keeps-type : Keeps GoodType (g.type_rule floor n inner)
  keeps-type = keeps-or keeps-index (keeps-or enumeration (keeps-or array structure))

  pub keeps-field : Keeps GoodField (g.field_rule floor n inner)
  keeps-field =
      keeps-bind (keeps-separated keeps-name) (λ names all.
      keeps-then (keeps-token colon) (keeps-bind keeps-type (λ of good. keeps-then (keeps-token semicolon) (keeps-nothing _ (field-good names of (g.place_of names) all good)))))

  -- ---- paths

  part-rule : Keeps GoodPart (g.part_rule floor n inner)
  part-rule =
      keeps-or (keeps-then (keeps-token dot) (keeps-bind keeps-name (λ x name. keeps-nothing _ (part-field x name))))
      (keeps-then (opening open_bracket) (keeps-bind ok.expr (λ x good. keeps-then (keeps-token close_bracket) (keeps-nothing _ (part-at x good)))))

  pub keeps-path : Keeps GoodPath (g.path_rule floor n inner)
  keeps-path = keeps-bind keeps-name (λ x name. keeps-bind (keeps-many part-rule) (λ more all. keeps-nothing _ (path-named x more name all)))

  -- ---- expressions

  pub keeps-condition : Keeps GoodExpr (g.condition_rule floor n inner)
  keeps-condition = keeps-then (opening open_paren) (keeps-bind ok.expr (λ x good. keeps-then (keeps-token close_paren) (keeps-nothing _ good)))

  listed : Keeps GoodExpr (g.listed floor n inner)
  listed =
      keeps-bind (opening open_brace) (λ at any. keeps-bind (keeps-separated ok.member) (λ members all. keeps-then (keeps-token close_brace) (keeps-nothing _ (expr-list members at all))))

  comprehension : Keeps GoodExpr (g.comprehension floor n inner)
  comprehension =
      keeps-bind (opening open_brace) (λ at any. keeps-bind keeps-name (λ x name. keeps-then (keeps-token colon) (keeps-then (keeps-same_name x) (keeps-then (keeps-token w.word_in)
      (keeps-bind keeps-index (λ over type. keeps-bind (keeps-optional (keeps-then (keeps-token comma) ok.expr)) (λ cond good.
      keeps-then (keeps-token close_brace) (keeps-nothing _ (expr-each x over cond at name type good)))))))))

  set : Keeps GoodExpr (g.set floor n inner)
  set = keeps-or listed comprehension

  -- a reduction over names
  abbrev MakesGood : (Expr → Word → TypeExpr → ℕ → Expr) → Type 0
  MakesGood make = (x : Expr) (v : Word) (over : TypeExpr) (at : ℕ) → GoodExpr x → Named v → GoodType over → GoodExpr (make x v over at)

  reduction : Keeps GoodExpr (g.reduction floor n inner)
  reduction =
      keeps-bind (keeps-one_of MakesGood ((ampersand, expr.All) ∷ (bar, expr.Any) ∷ []) (expr-all, (expr-any, tt))) (λ make makes.
      keeps-then (opening open_bracket) (keeps-bind ok.expr (λ x good. keeps-then (keeps-token colon) (keeps-bind keeps-name (λ v name. keeps-then (keeps-token w.word_in)
      (keeps-bind keeps-index (λ over type. keeps-then (keeps-token close_bracket) (keeps-nothing _ (makes x v over make.1 good name type)))))))))

  prim : Keeps GoodExpr (g.prim floor n inner)
  prim =
      keeps-or (keeps-bind keeps-number (λ k few. keeps-nothing _ (expr-number k.0 k.1 few)))
      (keeps-or (keeps-bind keeps-path (λ p good. keeps-nothing _ (expr-signal p good))) (keeps-or keeps-condition (keeps-or set reduction)))

  signed : Keeps GoodSigned (g.signed floor n inner)
  signed = keeps-bind (keeps-one_of Any ((plus, false) ∷ (minus, true) ∷ []) (tt, (tt, tt))) (λ sign any. keeps-bind prim (λ x good. keeps-nothing _ (signed-good sign.0 x good)))

  sum : Keeps GoodExpr (g.sum floor n inner)
  sum = keeps-bind prim (λ x good. keeps-bind (keeps-many signed) (λ more all. keeps-nothing _ (expr-sum_of x more good all)))

  modulo : Keeps GoodExpr (g.modulo floor n inner)
  modulo =
      keeps-bind sum (λ x good.
      keeps-or (keeps-then (keeps-token w.word_mod) (keeps-bind keeps-number (λ k few. keeps-nothing _ (expr-modulo x k.0 k.1 good few)))) (keeps-nothing _ good))

  comparison : Keeps GoodExpr (g.comparison floor n inner)
  comparison =
      keeps-bind modulo (λ x good.
      keeps-or
      (keeps-bind (keeps-one_of Any ((equal, op.Equal) ∷ (differ, op.Differ) ∷ (less, op.Less) ∷ (at_most, op.AtMost) ∷ (greater, op.Greater) ∷ (at_least, op.AtLeast) ∷ []) (tt, (tt, (tt, (tt, (tt, (tt, tt)))))))
      (λ o any. keeps-bind modulo (λ y right. keeps-nothing _ (expr-compare o.0 x y good right))))
      (keeps-or (keeps-then (keeps-token w.word_in) (keeps-bind set (λ s right. keeps-nothing _ (expr-within x s good right)))) (keeps-nothing _ good)))

  pub keeps-negation : Keeps GoodExpr (g.negation_rule floor n inner)
  keeps-negation = keeps-or (keeps-bind (opening tilde) (λ at any. keeps-bind ok.negation (λ x good. keeps-nothing _ (expr-not x at good)))) comparison

  chained : (k : TokenKind) (make : List Expr → Expr) (r : Rule Expr) → ((xs : List Expr) → Each GoodExpr xs → GoodExpr (make xs)) → Keeps GoodExpr r → Keeps GoodExpr (g.chained floor n inner k make r)
  chained k make r makes one =
      keeps-bind one (λ x good. keeps-bind (keeps-many (keeps-then (keeps-token k) one)) (λ more all. keeps-nothing _ (expr-chain make makes x more good all)))

  implication : Keeps GoodExpr (g.implication floor n inner)
  implication = chained arrow expr.Implies _ expr-implies (chained bar expr.Or _ expr-or (chained ampersand expr.And _ expr-and keeps-negation))

  equivalence : Keeps GoodExpr (g.equivalence floor n inner)
  equivalence =
      keeps-bind implication (λ x good.
      keeps-or (keeps-then (keeps-token double_arrow) (keeps-bind implication (λ y right. keeps-nothing _ (expr-iff x y good right)))) (keeps-nothing _ good))

  pub keeps-expr : Keeps GoodExpr (g.expr_rule floor n inner)
  keeps-expr =
      keeps-bind equivalence (λ c good.
      keeps-or
      (keeps-then (opening question) (keeps-bind ok.expr (λ x first. keeps-then (keeps-token colon) (keeps-bind ok.expr (λ y second. keeps-nothing _ (expr-choose c x y good first second))))))
      (keeps-nothing _ good))

  pub keeps-member : Keeps GoodMember (g.member_rule floor n inner)
  keeps-member = keeps-or (keeps-bind keeps-expr (λ x good. keeps-nothing _ (member-one x good))) (keeps-bind keeps-span (λ s good. keeps-nothing _ (member-span s.0 s.1 good)))

  -- ---- statements

  pub keeps-binder : Keeps GoodBinder (g.binder_rule floor n inner)
  keeps-binder =
      keeps-then (opening open_paren) (keeps-bind keeps-name (λ x name.
      keeps-then (keeps-token w.word_in) (keeps-bind keeps-index (λ over type. keeps-then (keeps-token close_paren) (keeps-nothing _ (name, type))))))

  value : Keeps GoodExpr (g.value floor n inner)
  value = keeps-then (keeps-token becomes) (keeps-bind keeps-expr (λ x good. keeps-then (keeps-token semicolon) (keeps-nothing _ good)))

  assignment : Keeps GoodStmt (g.assignment floor n inner)
  assignment = keeps-bind keeps-path (λ p path. keeps-bind value (λ x good. keeps-nothing _ (stmt-assign kind.Comb p x (out-Path p).at path good)))

  timed : Keeps GoodStmt (g.timed floor n inner)
  timed =
      keeps-bind (keeps-one_of Any ((w.word_init, kind.Init) ∷ (w.word_next, kind.Next) ∷ []) (tt, (tt, tt))) (λ k any.
      keeps-then (opening open_paren) (keeps-bind ok.path (λ p path. keeps-then (keeps-token close_paren) (keeps-bind value (λ x good. keeps-nothing _ (stmt-assign k.0 p x k.1 path good))))))

  otherwise : (first : Stmt) → Keeps GoodStmt (g.otherwise floor n inner first)
  otherwise first = keeps-when _ (keeps-then (keeps-token w.word_else) ok.stmt)

  if-rule : Keeps GoodStmt (g.if_rule floor n inner)
  if-rule =
      keeps-bind (opening w.word_if) (λ at any. keeps-bind ok.condition (λ c test. keeps-bind ok.stmt (λ x first. keeps-bind (keeps-optional (otherwise x)) (λ y second.
      keeps-nothing _ (stmt-if c x y at test first second)))))

  arm : Keeps GoodArm (g.arm floor n inner)
  arm = keeps-bind (keeps-separated keeps-label) (λ labels all. keeps-then (keeps-token colon) (keeps-bind ok.stmt (λ body good. keeps-nothing _ (arm-good labels body all good))))

  pub keeps-arms : Keeps GoodArms (g.arms_rule floor n inner)
  keeps-arms =
      keeps-then (opening open_brace) (keeps-bind (keeps-many arm) (λ arms all.
      keeps-bind (keeps-optional (keeps-then (keeps-token w.word_default) (keeps-then (keeps-token colon) ok.stmt))) (λ other good.
      keeps-then (keeps-token close_brace) (keeps-nothing _ (all, good)))))

  switch : Keeps GoodStmt (g.switch floor n inner)
  switch = keeps-bind (opening w.word_switch) (λ at any. keeps-bind ok.condition (λ x test. keeps-bind ok.arms (λ a good. keeps-nothing _ (stmt-switch x a.0 a.1 at test good.0 good.1))))

  default : Keeps GoodStmt (g.default floor n inner)
  default =
      keeps-bind (opening w.word_default) (λ at any. keeps-bind ok.stmt (λ x first. keeps-then (keeps-token w.word_in) (keeps-bind ok.stmt (λ y second.
      keeps-nothing _ (stmt-default x y at first second)))))

  pub keeps-turns : Keeps GoodTurns (g.turns_rule floor n inner)
  keeps-turns =
      keeps-then (opening open_paren) (keeps-bind keeps-name (λ x name. keeps-then (keeps-token equal) (keeps-bind keeps-number (λ from a. keeps-then (keeps-token semicolon)
      (keeps-then (keeps-same_name x) (keeps-bind (keeps-one_of Any ((less, false) ∷ (at_most, true) ∷ []) (tt, (tt, tt))) (λ closed any. keeps-bind keeps-number (λ to b.
      keeps-then (keeps-token semicolon) (keeps-then (keeps-same_name x) (keeps-then (keeps-token equal) (keeps-then (keeps-same_name x) (keeps-then (keeps-token plus)
      (keeps-bind keeps-positive (λ step c. keeps-then (keeps-token close_paren) (keeps-nothing _ (name, a, b, c))))))))))))))))

  for : Keeps GoodStmt (g.for floor n inner)
  for =
      keeps-bind (opening w.word_for) (λ at any. keeps-bind ok.turns (λ t good. keeps-bind ok.stmt (λ body last.
      keeps-nothing _ (stmt-for t.var t.from t.to t.closed t.step body at good.0 good.1 good.2 good.3 last))))

  simple : Keeps GoodStmt (g.simple floor n inner)
  simple = keeps-or assignment (keeps-or timed (keeps-or if-rule (keeps-or switch (keeps-or default for))))

  pub keeps-stmt : Keeps GoodStmt (g.stmt_rule floor n inner)
  keeps-stmt =
      keeps-or (keeps-bind (opening w.word_forall) (λ at any. keeps-bind ok.binder (λ b good. keeps-bind ok.stmt (λ body last. keeps-nothing _ (stmt-forall b.0 b.1 body at good.0 good.1 last)))))
      (keeps-or (keeps-then (opening open_brace) (keeps-bind (keeps-many ok.stmt) (λ parts all. keeps-then (keeps-token close_brace) (keeps-nothing _ (stmt-block parts all))))) simple)

  -- ---- references

  in-brackets : Keeps Named (g.in_brackets floor n inner)
  in-brackets = keeps-then (opening open_bracket) (keeps-bind keeps-name (λ x name. keeps-then (keeps-token close_bracket) (keeps-nothing _ name)))

  ref-part : Keeps GoodRefPart (g.ref_part floor n inner)
  ref-part =
      keeps-or (keeps-then (keeps-token dot) (keeps-bind keeps-name (λ x name. keeps-nothing (Dotted x) name))) (keeps-bind in-brackets (λ x name. keeps-nothing (Bracketed x) name))

  ref-by : (layer : Rule (Option Word × Bool)) → Keeps GoodLayer layer → Keeps GoodRef (g.ref_by floor n inner layer)
  ref-by layer last =
      keeps-bind keeps-name (λ x name. keeps-bind (keeps-many ref-part) (λ parts all. keeps-bind last (λ l good.
      keeps-nothing _ (ref-good (x ∷ g.dotted parts) (g.bracketed parts) l.0 l.1 x.at (name, good-dotted parts all) (good-bracketed parts all) good))))

  ref : Keeps GoodRef (g.ref floor n inner)
  ref = ref-by _ (keeps-or (keeps-then (keeps-token slashes) keeps-layer_name) (keeps-nothing _ tt))

  pub keeps-ref : Keeps GoodRef (g.ref_rule floor n inner)
  keeps-ref = ref-by _ (keeps-or (keeps-then (keeps-token slashes) (keeps-or keeps-layer_name keeps-free)) (keeps-nothing _ tt))

  use-rule : Keeps GoodUse (g.use_rule floor n inner)
  use-rule =
      keeps-or (keeps-bind keeps-ref (λ r good. keeps-nothing _ (use-plain r good)))
      (keeps-or (keeps-then (opening open_paren) (keeps-bind ok.ref (λ r good. keeps-then (keeps-token close_paren) (keeps-nothing _ (use-early r good)))))
      (keeps-bind keeps-name (λ x name. keeps-then (keeps-token arrow) (keeps-then (opening open_brace) (keeps-bind (keeps-separated_or_none keeps-name) (λ names all.
      keeps-then (keeps-token close_brace) (keeps-nothing _ (use-keep x names x.at name all))))))))

  -- ---- items

  claim : Keeps GoodItem (g.claim floor n inner)
  claim =
      keeps-bind keeps-name (λ x name. keeps-bind (keeps-many in-brackets) (λ vars all.
      keeps-then (keeps-token colon) (keeps-then (keeps-token w.word_assert) (keeps-then (keeps-token w.word_G) (keeps-bind keeps-expr (λ body good.
      keeps-then (keeps-token semicolon) (keeps-nothing _ (item-claim x vars body x.at name all good))))))))

  pair : Keeps GoodPair (g.pair floor n inner)
  pair = keeps-bind (keeps-placed sum) (λ x good. keeps-then (keeps-token equal) (keeps-bind keeps-name (λ y name. keeps-nothing _ (pair-good x.0 y x.1 good name))))

  split : Keeps GoodItem (g.split floor n inner)
  split =
      keeps-bind (keeps-token w.word_subcase) (λ at any. keeps-bind keeps-name (λ x name. keeps-bind (keeps-many in-brackets) (λ vars all.
      keeps-then (keeps-token w.word_of) (keeps-bind ref (λ of good. keeps-then (keeps-token w.word_for) (keeps-bind (keeps-separated pair) (λ pairs each.
      keeps-then (keeps-token semicolon) (keeps-nothing _ (item-split x vars of pairs at name all good each)))))))))

  using : Keeps GoodItem (g.using floor n inner)
  using =
      keeps-bind (keeps-token w.word_using) (λ at any. keeps-bind (keeps-separated use-rule) (λ us all.
      keeps-then (keeps-token w.word_prove) (keeps-bind (keeps-separated ref) (λ proves each. keeps-then (keeps-token semicolon) (keeps-nothing _ (item-using us proves at all each))))))

  pub keeps-item : Keeps GoodItem (g.item_rule floor n inner)
  keeps-item =
      keeps-or (keeps-bind (opening w.word_forall) (λ at any. keeps-bind ok.binder (λ b good. keeps-bind ok.item (λ body last. keeps-nothing _ (item-forall b.0 b.1 body at good.0 good.1 last)))))
      (keeps-or (keeps-then (opening open_brace) (keeps-bind (keeps-many ok.item) (λ items all. keeps-then (keeps-token close_brace) (keeps-nothing _ (item-block items all)))))
      (keeps-or claim (keeps-or split (keeps-or using (keeps-bind simple (λ x good. keeps-nothing _ (item-act x good)))))))

  declared : (how : Role) (at : List Word → ℕ) → Keeps GoodItem (g.declared floor n inner how at)
  declared how at =
      keeps-bind (keeps-separated keeps-name) (λ names all.
      keeps-then (keeps-token colon) (keeps-bind keeps-type (λ of good. keeps-then (keeps-token semicolon) (keeps-nothing _ (item-declare how names of (at names) all good)))))

  declaration : Keeps GoodItem (g.declaration floor n inner)
  declaration =
      keeps-or
      (keeps-bind (keeps-one_of Any ((w.word_abstract, role.Abstract) ∷ (w.word_input, role.Input) ∷ (w.word_output, role.Output) ∷ []) (tt, (tt, (tt, tt)))) (λ r any. declared r.0 (λ names. r.1)))
      (declared role.Plain g.place_of)

  instance : Keeps GoodItem (g.instance floor n inner)
  instance =
      keeps-bind (keeps-separated keeps-name) (λ names all. keeps-then (keeps-token colon) (keeps-bind keeps-name (λ m name.
      keeps-then (opening open_paren) (keeps-bind (keeps-separated_or_none ok.expr) (λ args good. keeps-then (keeps-token close_paren) (keeps-then (keeps-token semicolon)
      (keeps-nothing _ (item-instance names m args (g.place_of names) all name good))))))))

  layer : Keeps GoodItem (g.layer floor n inner)
  layer =
      keeps-bind (keeps-token w.word_layer) (λ at any. keeps-bind keeps-name (λ x name. keeps-then (keeps-token colon) (keeps-then (opening open_brace) (keeps-bind (keeps-many ok.stmt) (λ body all.
      keeps-then (keeps-token close_brace) (keeps-nothing _ (item-layer x body at name all)))))))

  pub keeps-body : Keeps GoodItem (g.body_rule floor n inner)
  keeps-body = keeps-or declaration (keeps-or instance (keeps-or layer keeps-item))

  -- ---- the text

  pub keeps-top : Keeps GoodTop (g.top_rule floor n inner)
  keeps-top =
      keeps-or (keeps-then (keeps-token w.word_scalarset) (keeps-bind keeps-name (λ x name. keeps-bind keeps-extent (λ s good.
      keeps-then (keeps-token semicolon) (keeps-nothing _ (top-set_type x false s.0 s.1 name good))))))
      (keeps-or (keeps-then (keeps-token w.word_ordset) (keeps-bind keeps-name (λ x name. keeps-bind (keeps-token w.word_undefined) (λ at any.
      keeps-then (keeps-token semicolon) (keeps-nothing _ (top-set_type x true None at name tt))))))
      (keeps-or (keeps-bind (keeps-token w.word_typedef) (λ at any. keeps-bind keeps-name (λ x name. keeps-bind keeps-type (λ of good.
      keeps-then (keeps-token semicolon) (keeps-nothing _ (top-alias x of at name good))))))
      (keeps-bind (keeps-token w.word_module) (λ at any. keeps-bind keeps-name (λ x name. keeps-then (opening open_paren) (keeps-bind (keeps-separated_or_none keeps-name) (λ formals all.
      keeps-then (keeps-token close_paren) (keeps-then (opening open_brace) (keeps-bind (keeps-many ok.body) (λ items each.
      keeps-then (keeps-token close_brace) (keeps-nothing _ (top-module x formals items at name all each))))))))))))

  pub keeps-rules : GoodRules (g.rules floor n inner)
  keeps-rules = record {
    expr = keeps-expr;
    negation = keeps-negation;
    member = keeps-member;
    path = keeps-path;
    type = keeps-type;
    field = keeps-field;
    condition = keeps-condition;
    binder = keeps-binder;
    stmt = keeps-stmt;
    arms = keeps-arms;
    turns = keeps-turns;
    ref = keeps-ref;
    item = keeps-item;
    body = keeps-body;
  }

-- the rules where fewer levels are left
keeps-below : (floor : ℕ → ℕ) (n : ℕ) → GoodRules (g.below floor n)
keeps-below floor zero = no-rules
keeps-below floor (suc n) = keeps-rules floor n (g.below floor n) (keeps-below floor n)

pub keeps-text : (floor : ℕ → ℕ) (n : ℕ) → Keeps (Each GoodTop) (g.text_rule floor n)
keeps-text floor n = keeps-many (keeps-top floor n (g.below floor n) (keeps-below floor n))
