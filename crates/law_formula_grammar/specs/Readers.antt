-- The readers of formulas, and of what has claims, rule by rule.
use Rattle.std.specs.Prelude.{ℕ, zero, suc, true, false, List, [], ◌∷◌, Option, Some, None, Result, Ok, Err}
use Rattle.smv_core.specs.declared.tree.Word.{Word}
use Rattle.smv_core.specs.declared.tree.Part.{Part}
use Rattle.smv_core.specs.declared.tree.Path.{out-Path}
use Rattle.smv_core.specs.declared.tree.Stmt.TheVariants as stmt
use Rattle.smv_core.specs.declared.tree.Kind.TheVariants as kind
use Rattle.smv_core.specs.declared.tree.Item.{Item}
use Rattle.smv_core.specs.declared.tree.Item.TheVariants as item
use Rattle.smv_core.specs.declared.tree.Top.{Top}
use Rattle.smv_core.specs.declared.tree.Top.TheVariants as top
use Rattle.smv_core.specs.Signs.{open_paren, close_paren, open_bracket, open_brace, close_brace, colon, semicolon, comma, dot}
use Rattle.smv_core.specs.Signs as w
use Rattle.smv_core.specs.Notation.{Tokens}
use Rattle.smv_core.specs.Grammar.{named}
use Rattle.law_grammar.specs.Parsing.{Halt, Halts, Outcome, Parser, bind, pure, take, take_open, fork, loop}
use Rattle.law_grammar.specs.Marks.{any_name, exactly, begins}
use Rattle.law_grammar.specs.Readers.{a_token, a_name, read_separated_or_none, noting, first_at}
use Rattle.law_grammar.specs.Expressions.{read_expr, expr_readers, no_level}
use Rattle.law_grammar.specs.Types.{read_type, type_readers}
use Rattle.law_grammar.specs.Statements.{read_value, read_worded, stmt_readers}
use Rattle.law_grammar.specs.References.{read_split, read_using}
use Rattle.law_grammar.specs.Items.{item_marks, role_marks, body_marks, top_marks, MarkedPart, parts_of, vars_of, vars_of_some, read_marked, read_of_names, read_with_role, read_layer, item_readers, read_extent}
use Rattle.law_formulas.specs.Formulas.{Formula, now, next, when, weak, FormulaText}
use Rattle.law_formula_grammar.specs.Grammar.{With, bare, claim_of, forall_of, block_of, module_of, text_of}

-- ---- formulas

module _ (n : ℕ) (inner : Parser Formula) where
  unfoldable pub read_next : Parser Formula
  read_next = bind (take (a_token w.word_X)) (λ at. take_open (a_token open_paren) n (λ _. bind inner (λ f. bind (take (a_token close_paren)) (λ _. pure (next at f)))))

  unfoldable pub read_when : Parser Formula
  read_when = take_open (a_token w.word_if) n (λ _. bind ((stmt_readers n).condition) (λ c. bind inner (λ f. pure (when c f))))

  unfoldable pub read_weak : Parser Formula
  read_weak = bind (take (a_token w.word_W)) (λ _. take_open (a_token open_paren) n (λ _. bind ((expr_readers n).expr) (λ p. bind (take (a_token comma)) (λ _.
      bind ((expr_readers n).expr) (λ q. bind (take (a_token close_paren)) (λ _. pure (weak p q)))))))

  unfoldable pub read_formula : Parser Formula
  read_formula = fork (begins (exactly w.word_X ∷ [])) read_next
      (fork (begins (exactly w.word_if ∷ [])) read_when
      (fork (begins (exactly w.word_W ∷ [])) read_weak (bind (read_expr n (expr_readers n)) (λ e. pure (now e)))))

-- the reader where fewer levels are left than this
abbrev pub formula_reader : ℕ → Parser Formula
formula_reader zero = no_level
formula_reader (suc n) = read_formula n (formula_reader n)

-- ---- what begins with a name

-- what has no formula
abbrev pub read_without : {A : Type 0} → Parser A → Parser (With A)
read_without p = bind p (λ x. pure (bare x))

module _ (n : ℕ) where
  -- a claim from its `assert` on
  unfoldable pub read_claimed : Word → List Word → Parser (With Item)
  read_claimed x vars = bind (take (a_token w.word_assert)) (λ _. bind (take (a_token w.word_G)) (λ _. bind (noting first_at (read_formula n (formula_reader n))) (λ f. bind (take (a_token semicolon)) (λ _.
      pure (claim_of x vars f)))))

  -- an assignment from its `:=` on
  unfoldable pub read_assigned : Word → List Part → Parser (With Item)
  read_assigned x more = bind (read_value n) (λ v. pure (bare (item.Act (stmt.Assign kind.Comb (named x more) v (out-Path (named x more)).at))))

  -- a claim where it may be one, and else an assignment
  unfoldable pub read_claim_or_assignment : Word → List MarkedPart → Option (List Word) → Parser (With Item)
  read_claim_or_assignment x ms None = read_assigned x (parts_of ms)
  read_claim_or_assignment x ms (Some vars) = fork (begins (exactly colon ∷ [])) (bind (take (a_token colon)) (λ _. read_claimed x vars)) (read_assigned x (parts_of ms))

  -- what stands behind the name of a claim or an assignment
  unfoldable pub read_behind : (List MarkedPart → Option (List Word)) → Word → Parser (With Item)
  read_behind vars x = bind (loop (begins (exactly dot ∷ exactly open_bracket ∷ [])) (read_marked n)) (λ ms. read_claim_or_assignment x ms (vars ms))

  unfoldable pub read_named : Parser (With Item)
  read_named = bind (take a_name) (λ x. read_behind vars_of x)

  -- what stands behind the colon of one name or several
  unfoldable pub read_behind_colon : Word → List Word → Parser (With Item)
  read_behind_colon x [] = fork (begins (exactly w.word_assert ∷ [])) (read_claimed x []) (read_without (read_of_names n (x ∷ [])))
  read_behind_colon x (y ∷ more) = read_without (read_of_names n (x ∷ y ∷ more))

  -- what stands behind the first name, where a comma or a colon follows
  unfoldable pub read_listed : Word → Parser (With Item)
  read_listed x = bind (loop (begins (exactly comma ∷ [])) (bind (take (a_token comma)) (λ _. take a_name))) (λ more. bind (take (a_token colon)) (λ _. read_behind_colon x more))

  unfoldable pub read_named_body : Parser (With Item)
  read_named_body = bind (take a_name) (λ x. fork (begins (exactly comma ∷ exactly colon ∷ [])) (read_listed x) (read_behind vars_of_some x))

-- ---- within so many levels

module _ (n : ℕ) (inner : Parser (With Item)) where
  unfoldable pub read_forall_item : Parser (With Item)
  read_forall_item = take_open (a_token w.word_forall) n (λ at. bind ((stmt_readers n).binder) (λ b. bind inner (λ body. pure (forall_of b at body))))

  unfoldable pub read_block_item : Parser (With Item)
  read_block_item = take_open (a_token open_brace) n (λ _. bind (loop (begins item_marks) inner) (λ items. bind (take (a_token close_brace)) (λ _. pure (block_of items))))

  -- an item that begins with no name
  unfoldable pub read_other_item : Parser (With Item)
  read_other_item = fork (begins (exactly w.word_forall ∷ [])) read_forall_item
      (fork (begins (exactly open_brace ∷ [])) read_block_item
      (fork (begins (exactly w.word_subcase ∷ [])) (read_without (read_split n))
      (fork (begins (exactly w.word_using ∷ [])) (read_without (read_using n (item_readers n).ref)) (bind (read_worded n (stmt_readers n)) (λ x. pure (bare (item.Act x)))))))

  unfoldable pub read_item : Parser (With Item)
  read_item = fork (begins (any_name ∷ [])) (read_named n) read_other_item

  unfoldable pub read_body : Parser (With Item)
  read_body = fork (begins role_marks) (read_without (read_with_role n))
      (fork (begins (exactly w.word_layer ∷ [])) (read_without (read_layer n))
      (fork (begins (any_name ∷ [])) (read_named_body n) read_other_item))

-- the readers where fewer levels are left than this
abbrev pub item_reader : ℕ → Parser (With Item)
item_reader zero = no_level
item_reader (suc n) = read_item n (item_reader n)

abbrev pub body_reader : ℕ → Parser (With Item)
body_reader zero = no_level
body_reader (suc n) = read_body n (item_reader n)

-- ---- the text

unfoldable pub read_scalarset : ℕ → Parser (With Top)
read_scalarset n = bind (take (a_token w.word_scalarset)) (λ _. bind (take a_name) (λ x. bind (read_extent n (item_readers n)) (λ s. bind (take (a_token semicolon)) (λ _. pure (bare (top.SetType x false s.0 s.1))))))

unfoldable pub read_ordset : ℕ → Parser (With Top)
read_ordset n = bind (take (a_token w.word_ordset)) (λ _. bind (take a_name) (λ x. bind (take (a_token w.word_undefined)) (λ at. bind (take (a_token semicolon)) (λ _. pure (bare (top.SetType x true None at))))))

unfoldable pub read_typedef : ℕ → Parser (With Top)
read_typedef n = bind (take (a_token w.word_typedef)) (λ at. bind (take a_name) (λ x. bind (read_type n (type_readers n)) (λ of. bind (take (a_token semicolon)) (λ _. pure (bare (top.Alias x of at))))))

-- a module from its body on
unfoldable pub read_module_body : ℕ → ℕ → Word → List Word → Parser (With Top)
read_module_body n at x formals = take_open (a_token open_brace) n (λ _. bind (loop (begins body_marks) (body_reader n)) (λ items. bind (take (a_token close_brace)) (λ _. pure (module_of at x formals items))))

unfoldable pub read_module : ℕ → Parser (With Top)
read_module n = bind (take (a_token w.word_module)) (λ at. bind (take a_name) (λ x. take_open (a_token open_paren) n (λ _. bind (read_separated_or_none (any_name ∷ []) (take a_name)) (λ formals.
    bind (take (a_token close_paren)) (λ _. read_module_body n at x formals)))))

unfoldable pub read_top : ℕ → Parser (With Top)
read_top n = fork (begins (exactly w.word_scalarset ∷ [])) (read_scalarset n)
    (fork (begins (exactly w.word_ordset ∷ [])) (read_ordset n)
    (fork (begins (exactly w.word_typedef ∷ [])) (read_typedef n) (read_module n)))

-- as many tops as stand one after another, as a text
unfoldable pub read_tops : ℕ → Parser FormulaText
read_tops n = bind (loop (begins top_marks) (read_top n)) (λ tops. pure (text_of tops))

-- what is read, where no token is left
abbrev pub ended : {A : Type 0} → A → Tokens → Result A Halt
ended a [] = Ok a
ended a (t ∷ rest) = Err (Halts false (t ∷ rest))

abbrev pub whole : {A : Type 0} → Outcome A → Result A Halt
whole (Ok p) = ended p.0 p.1
whole (Err h) = Err h

-- a whole list of tokens as a text with formulas, or where it halts
abbrev pub read_text : ℕ → Tokens → Result FormulaText Halt
read_text n ts = whole (read_tops n ts)
