-- The parser of statements, rule by rule.
use Rattle.std.specs.Prelude.{ℕ, zero, suc, Bool, true, false, List, [], ◌∷◌, Option, Some, None}
use Rattle.smv_core.specs.declared.token.Token.{Token}
use Rattle.smv_core.specs.declared.token.TokenKind.{TokenKind}
use Rattle.smv_core.specs.declared.tree.Word.{Word}
use Rattle.smv_core.specs.declared.tree.Expr.{Expr}
use Rattle.smv_core.specs.declared.tree.Expr.TheVariants as expr
use Rattle.smv_core.specs.declared.tree.Path.{Path, out-Path}
use Rattle.smv_core.specs.declared.tree.TypeExpr.{TypeExpr}
use Rattle.smv_core.specs.declared.tree.Stmt.{Stmt}
use Rattle.smv_core.specs.declared.tree.Stmt.TheVariants as stmt
use Rattle.smv_core.specs.declared.tree.Arm.{Arm, roll-Arm}
use Rattle.smv_core.specs.declared.tree.Kind.{Kind}
use Rattle.smv_core.specs.declared.tree.Kind.TheVariants as kind
use Rattle.smv_core.specs.Signs.{open_paren, close_paren, open_brace, close_brace, colon, semicolon, becomes, equal, less, at_most, plus}
use Rattle.smv_core.specs.Signs as w
use Rattle.smv_core.specs.Notation.{number_of}
use Rattle.smv_core.specs.Grammar.{Turns, named}
use Rattle.law_grammar.specs.Parsing.{Parser, bind, pure, take, take_open, fork, loop}
use Rattle.law_grammar.specs.Marks.{Mark, any_name, any_number, exactly, begins}
use Rattle.law_grammar.specs.Readers.{a_token, a_name, a_number, an_entry, a_same_name, maybe, read_separated}
use Rattle.law_grammar.specs.Expressions.{read_index, read_path, read_condition, read_expr, expr_readers, no_level}

-- ---- single tokens

abbrev pub at_least_one : Option ℕ → Option ℕ
at_least_one None = None
at_least_one (Some zero) = None
at_least_one (Some (suc k)) = Some (suc k)

-- the value of a number that is at least 1
abbrev pub a_positive : Token → Option ℕ
a_positive t = at_least_one (number_of t.kind)

abbrev pub moments : List (TokenKind × Kind)
moments = (w.word_init, kind.Init) ∷ (w.word_next, kind.Next) ∷ []

abbrev pub bounds : List (TokenKind × Bool)
bounds = (less, false) ∷ (at_most, true) ∷ []

-- ---- what begins a statement

abbrev pub simple_marks : List Mark
simple_marks = any_name ∷ exactly w.word_init ∷ exactly w.word_next ∷ exactly w.word_if ∷ exactly w.word_switch ∷ exactly w.word_default ∷ exactly w.word_for ∷ []

abbrev pub stmt_marks : List Mark
stmt_marks = exactly w.word_forall ∷ exactly open_brace ∷ simple_marks

-- ---- within so many levels

-- the parsers for what stands inside an opened level
pub record StmtReaders : Type 0 where
  pub path : Parser Path
  pub condition : Parser Expr
  pub binder : Parser (Word × TypeExpr)
  pub stmt : Parser Stmt
  pub arms : Parser (List Arm × Option Stmt)
  pub turns : Parser Turns

unfoldable pub read_label : Parser Expr
read_label = fork (begins (any_number ∷ [])) (bind (take a_number) (λ k. pure (expr.Number k.0 k.1))) (bind (take a_name) (λ x. pure (expr.Signal (named x []))))

unfoldable pub read_binder : ℕ → Parser (Word × TypeExpr)
read_binder n = take_open (a_token open_paren) n (λ _. bind (take a_name) (λ x. bind (take (a_token w.word_in)) (λ _. bind read_index (λ over. bind (take (a_token close_paren)) (λ _. pure (x, over))))))

-- the bound of a `for`, whose variable and first number are known
unfoldable pub read_bound : Word → ℕ → Parser Turns
read_bound x from = bind (take (a_same_name x)) (λ _. bind (take (an_entry bounds)) (λ closed. bind (take a_number) (λ to. bind (take (a_token semicolon)) (λ _.
    bind (take (a_same_name x)) (λ _. bind (take (a_token equal)) (λ _. bind (take (a_same_name x)) (λ _. bind (take (a_token plus)) (λ _. bind (take a_positive) (λ step. bind (take (a_token close_paren)) (λ _.
    pure (record { var = x; from = from; to = to.0; closed = closed.0; step = step })))))))))))

unfoldable pub read_turns : ℕ → Parser Turns
read_turns n = take_open (a_token open_paren) n (λ _. bind (take a_name) (λ x. bind (take (a_token equal)) (λ _. bind (take a_number) (λ from. bind (take (a_token semicolon)) (λ _. read_bound x from.0)))))

unfoldable pub read_value : ℕ → Parser Expr
read_value n = bind (take (a_token becomes)) (λ _. bind (read_expr n (expr_readers n)) (λ x. bind (take (a_token semicolon)) (λ _. pure x)))

unfoldable pub read_assignment : ℕ → Parser Stmt
read_assignment n = bind (read_path n (expr_readers n)) (λ p. bind (read_value n) (λ x. pure (stmt.Assign kind.Comb p x (out-Path p).at)))

module _ (n : ℕ) (inner : StmtReaders) where
  unfoldable pub read_timed : Parser Stmt
  read_timed = bind (take (an_entry moments)) (λ k. take_open (a_token open_paren) n (λ _. bind inner.path (λ p. bind (take (a_token close_paren)) (λ _.
      bind (read_value n) (λ x. pure (stmt.Assign k.0 p x k.1))))))

  -- an `else`, where one stands
  unfoldable pub read_else : Parser (Option Stmt)
  read_else = maybe (exactly w.word_else ∷ []) (bind (bind (take (a_token w.word_else)) (λ _. inner.stmt)) (λ y. pure (Some y))) None

  unfoldable pub read_if : Parser Stmt
  read_if = take_open (a_token w.word_if) n (λ at. bind inner.condition (λ c. bind inner.stmt (λ x. bind read_else (λ y. pure (stmt.If c x y at)))))

  unfoldable pub read_arm : Parser Arm
  read_arm = bind (read_separated read_label) (λ labels. bind (take (a_token colon)) (λ _. bind inner.stmt (λ body. pure (roll-Arm (record { labels = labels; body = body })))))

  unfoldable pub read_other : Parser (Option Stmt)
  read_other = maybe (exactly w.word_default ∷ []) (bind (bind (take (a_token w.word_default)) (λ _. bind (take (a_token colon)) (λ _. inner.stmt))) (λ y. pure (Some y))) None

  unfoldable pub read_arms : Parser (List Arm × Option Stmt)
  read_arms = take_open (a_token open_brace) n (λ _. bind (loop (begins (any_number ∷ any_name ∷ [])) read_arm) (λ arms. bind read_other (λ other. bind (take (a_token close_brace)) (λ _. pure (arms, other)))))

  unfoldable pub read_switch : Parser Stmt
  read_switch = take_open (a_token w.word_switch) n (λ at. bind inner.condition (λ x. bind inner.arms (λ a. pure (stmt.Switch x a.0 a.1 at))))

  unfoldable pub read_default : Parser Stmt
  read_default = take_open (a_token w.word_default) n (λ at. bind inner.stmt (λ x. bind (take (a_token w.word_in)) (λ _. bind inner.stmt (λ y. pure (stmt.Default x y at)))))

  unfoldable pub read_for : Parser Stmt
  read_for = take_open (a_token w.word_for) n (λ at. bind inner.turns (λ t. bind inner.stmt (λ body. pure (stmt.For t.var t.from t.to t.closed t.step body at))))

  -- a statement that begins with a reserved word, save `forall`
  unfoldable pub read_worded : Parser Stmt
  read_worded = fork (begins (exactly w.word_init ∷ exactly w.word_next ∷ [])) read_timed
      (fork (begins (exactly w.word_if ∷ [])) read_if
      (fork (begins (exactly w.word_switch ∷ [])) read_switch
      (fork (begins (exactly w.word_default ∷ [])) read_default read_for)))

  unfoldable pub read_simple : Parser Stmt
  read_simple = fork (begins (any_name ∷ [])) (read_assignment n) read_worded

  unfoldable pub read_forall : Parser Stmt
  read_forall = take_open (a_token w.word_forall) n (λ at. bind inner.binder (λ b. bind inner.stmt (λ body. pure (stmt.Forall b.0 b.1 body at))))

  unfoldable pub read_block : Parser Stmt
  read_block = take_open (a_token open_brace) n (λ _. bind (loop (begins stmt_marks) inner.stmt) (λ parts. bind (take (a_token close_brace)) (λ _. pure (stmt.Block parts))))

  unfoldable pub read_stmt : Parser Stmt
  read_stmt = fork (begins (exactly w.word_forall ∷ [])) read_forall (fork (begins (exactly open_brace ∷ [])) read_block read_simple)

-- the parsers where fewer levels are left than this
abbrev pub stmt_readers : ℕ → StmtReaders
stmt_readers zero = record { path = no_level; condition = no_level; binder = no_level; stmt = no_level; arms = no_level; turns = no_level }
stmt_readers (suc n) = record {
  path = read_path n (expr_readers n);
  condition = read_condition n (expr_readers n);
  binder = read_binder n;
  stmt = read_stmt n (stmt_readers n);
  arms = read_arms n (stmt_readers n);
  turns = read_turns n;
}
