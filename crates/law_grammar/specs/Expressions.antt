-- The parser of expressions, rule by rule.
use Rattle.std.specs.Prelude.{ℕ, zero, suc, Bool, true, false, List, [], ◌∷◌, Option, Some, None, Err}
use Rattle.smv_core.specs.declared.token.TokenKind.{TokenKind}
use Rattle.smv_core.specs.declared.tree.Word.{Word}
use Rattle.smv_core.specs.declared.tree.Span.{Span}
use Rattle.smv_core.specs.declared.tree.Expr.{Expr}
use Rattle.smv_core.specs.declared.tree.Expr.TheVariants as expr
use Rattle.smv_core.specs.declared.tree.Signed.{Signed, roll-Signed}
use Rattle.smv_core.specs.declared.tree.Member.{Member}
use Rattle.smv_core.specs.declared.tree.Member.TheVariants as member
use Rattle.smv_core.specs.declared.tree.Part.{Part}
use Rattle.smv_core.specs.declared.tree.Part.TheVariants as part
use Rattle.smv_core.specs.declared.tree.Path.{Path}
use Rattle.smv_core.specs.declared.tree.Op.{Op}
use Rattle.smv_core.specs.declared.tree.Op.TheVariants as op
use Rattle.smv_core.specs.declared.tree.TypeExpr.{TypeExpr}
use Rattle.smv_core.specs.declared.tree.TypeExpr.TheVariants as type
use Rattle.smv_core.specs.Signs.{open_paren, close_paren, open_bracket, close_bracket, open_brace, close_brace, colon, comma, dot, dots}
use Rattle.smv_core.specs.Signs.{equal, differ, less, at_most, greater, at_least, plus, minus, tilde, ampersand, bar, arrow, double_arrow, question}
use Rattle.smv_core.specs.Signs as w
use Rattle.smv_core.specs.Grammar.{named, chain, sum_of}
use Rattle.law_grammar.specs.Parsing.{Halts, Parser, bind, pure, take, take_open, fork, fork2, loop}
use Rattle.law_grammar.specs.Marks.{Mark, any_name, any_number, exactly, begins}
use Rattle.law_grammar.specs.Readers.{a_token, a_name, a_number, an_entry, a_same_name, maybe, read_separated}

-- ---- what begins an expression

abbrev pub prim_marks : List Mark
prim_marks = any_number ∷ any_name ∷ exactly open_paren ∷ exactly open_brace ∷ exactly ampersand ∷ exactly bar ∷ []

abbrev pub expr_marks : List Mark
expr_marks = exactly tilde ∷ prim_marks

-- ---- what opens no level

unfoldable pub read_span : Parser (Span × ℕ)
read_span = bind (take a_number) (λ low. bind (take (a_token dots)) (λ _. bind (take a_number) (λ high. pure (record { low = low.0; high = high.0 }, low.1))))

unfoldable pub read_index : Parser TypeExpr
read_index = fork (begins (exactly w.word_boolean ∷ [])) (bind (take (a_token w.word_boolean)) (λ _. pure type.Boolean))
    (fork (begins (any_number ∷ [])) (bind read_span (λ s. pure (type.Range s.0 s.1))) (bind (take a_name) (λ x. pure (type.Named x x.at))))

abbrev pub reductions : List (TokenKind × (Expr → Word → TypeExpr → ℕ → Expr))
reductions = (ampersand, expr.All) ∷ (bar, expr.Any) ∷ []

abbrev pub additions : List (TokenKind × Bool)
additions = (plus, false) ∷ (minus, true) ∷ []

abbrev pub comparisons : List (TokenKind × Op)
comparisons = (equal, op.Equal) ∷ (differ, op.Differ) ∷ (less, op.Less) ∷ (at_most, op.AtMost) ∷ (greater, op.Greater) ∷ (at_least, op.AtLeast) ∷ []

-- ---- within so many levels

-- the parsers for what stands inside an opened level
pub record ExprReaders : Type 0 where
  pub expr : Parser Expr
  pub negation : Parser Expr
  pub member : Parser Member

module _ (n : ℕ) (inner : ExprReaders) where
  unfoldable pub read_part : Parser Part
  read_part = fork (begins (exactly dot ∷ [])) (bind (take (a_token dot)) (λ _. bind (take a_name) (λ x. pure (part.Field x))))
      (take_open (a_token open_bracket) n (λ _. bind inner.expr (λ x. bind (take (a_token close_bracket)) (λ _. pure (part.At x)))))

  unfoldable pub read_path : Parser Path
  read_path = bind (take a_name) (λ x. bind (loop (begins (exactly dot ∷ exactly open_bracket ∷ [])) read_part) (λ more. pure (named x more)))

  unfoldable pub read_condition : Parser Expr
  read_condition = take_open (a_token open_paren) n (λ _. bind inner.expr (λ x. bind (take (a_token close_paren)) (λ _. pure x)))

  unfoldable pub read_listed : ℕ → Parser Expr
  read_listed at = bind (read_separated inner.member) (λ members. bind (take (a_token close_brace)) (λ _. pure (expr.List members at)))

  unfoldable pub read_where : Parser (Option Expr)
  read_where = maybe (exactly comma ∷ []) (bind (bind (take (a_token comma)) (λ _. inner.expr)) (λ c. pure (Some c))) None

  unfoldable pub read_each : ℕ → Parser Expr
  read_each at = bind (take a_name) (λ x. bind (take (a_token colon)) (λ _. bind (take (a_same_name x)) (λ _. bind (take (a_token w.word_in)) (λ _. bind read_index (λ over.
      bind read_where (λ cond. bind (take (a_token close_brace)) (λ _. pure (expr.Each x over cond at))))))))

  -- a set, whose kind shows at the two tokens behind its brace
  unfoldable pub read_set : Parser Expr
  read_set = take_open (a_token open_brace) n (λ at. fork2 (begins (any_name ∷ [])) (begins (exactly colon ∷ [])) (read_each at) (read_listed at))

  unfoldable pub read_reduction : Parser Expr
  read_reduction = bind (take (an_entry reductions)) (λ make. take_open (a_token open_bracket) n (λ _. bind inner.expr (λ x. bind (take (a_token colon)) (λ _. bind (take a_name) (λ v.
      bind (take (a_token w.word_in)) (λ _. bind read_index (λ over. bind (take (a_token close_bracket)) (λ _. pure (make.0 x v over make.1)))))))))

  unfoldable pub read_prim : Parser Expr
  read_prim = fork (begins (any_number ∷ [])) (bind (take a_number) (λ k. pure (expr.Number k.0 k.1)))
      (fork (begins (any_name ∷ [])) (bind read_path (λ p. pure (expr.Signal p)))
      (fork (begins (exactly open_paren ∷ [])) read_condition
      (fork (begins (exactly open_brace ∷ [])) read_set read_reduction)))

  unfoldable pub read_signed : Parser Signed
  read_signed = bind (take (an_entry additions)) (λ sign. bind read_prim (λ x. pure (roll-Signed (record { minus = sign.0; of = x }))))

  unfoldable pub read_sum : Parser Expr
  read_sum = bind read_prim (λ x. bind (loop (begins (exactly plus ∷ exactly minus ∷ [])) read_signed) (λ more. pure (sum_of x more)))

  unfoldable pub read_modulo : Parser Expr
  read_modulo = bind read_sum (λ x. maybe (exactly w.word_mod ∷ []) (bind (take (a_token w.word_mod)) (λ _. bind (take a_number) (λ k. pure (expr.Modulo x k.0 k.1)))) x)

  unfoldable pub read_comparison : Parser Expr
  read_comparison = bind read_modulo (λ x.
      fork (begins (exactly equal ∷ exactly differ ∷ exactly less ∷ exactly at_most ∷ exactly greater ∷ exactly at_least ∷ []))
      (bind (take (an_entry comparisons)) (λ o. bind read_modulo (λ y. pure (expr.Compare o.0 x y))))
      (maybe (exactly w.word_in ∷ []) (bind (take (a_token w.word_in)) (λ _. bind read_set (λ s. pure (expr.Within x s)))) x))

  unfoldable pub read_negation : Parser Expr
  read_negation = fork (begins (exactly tilde ∷ [])) (take_open (a_token tilde) n (λ at. bind inner.negation (λ x. pure (expr.Not x at)))) read_comparison

  -- X { sign X }
  abbrev pub read_chained : TokenKind → (List Expr → Expr) → Parser Expr → Parser Expr
  read_chained k make p = bind p (λ x. bind (loop (begins (exactly k ∷ [])) (bind (take (a_token k)) (λ _. p))) (λ more. pure (chain make x more)))

  unfoldable pub read_conjunction : Parser Expr
  read_conjunction = read_chained ampersand expr.And read_negation

  unfoldable pub read_disjunction : Parser Expr
  read_disjunction = read_chained bar expr.Or read_conjunction

  unfoldable pub read_implication : Parser Expr
  read_implication = read_chained arrow expr.Implies read_disjunction

  unfoldable pub read_equivalence : Parser Expr
  read_equivalence = bind read_implication (λ x. maybe (exactly double_arrow ∷ []) (bind (take (a_token double_arrow)) (λ _. bind read_implication (λ y. pure (expr.Iff x y)))) x)

  unfoldable pub read_expr : Parser Expr
  read_expr = bind read_equivalence (λ c. maybe (exactly question ∷ [])
      (take_open (a_token question) n (λ _. bind inner.expr (λ x. bind (take (a_token colon)) (λ _. bind inner.expr (λ y. pure (expr.Choose c x y)))))) c)

  -- a span, where two dots follow a number, and else an expression
  unfoldable pub read_member : Parser Member
  read_member = fork2 (begins (any_number ∷ [])) (begins (exactly dots ∷ [])) (bind read_span (λ s. pure (member.Span s.0 s.1))) (bind read_expr (λ x. pure (member.One x)))

abbrev pub no_level : {A : Type 0} → Parser A
no_level ts = Err (Halts true ts)

-- the parsers where fewer levels are left than this
abbrev pub expr_readers : ℕ → ExprReaders
expr_readers zero = record { expr = no_level; negation = no_level; member = no_level }
expr_readers (suc n) = record { expr = read_expr n (expr_readers n); negation = read_negation n (expr_readers n); member = read_member n (expr_readers n) }
