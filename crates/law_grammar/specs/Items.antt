-- The parser of items and texts, rule by rule.
use Rattle.std.specs.Prelude.{ℕ, zero, suc, true, false, if◌then◌else◌, List, [], ◌∷◌, Option, Some, None, Result, Ok, Err}
use Rattle.smv_core.specs.declared.token.TokenKind.{TokenKind}
use Rattle.smv_core.specs.declared.tree.Word.{Word}
use Rattle.smv_core.specs.declared.tree.Span.{Span}
use Rattle.smv_core.specs.declared.tree.Part.{Part}
use Rattle.smv_core.specs.declared.tree.Part.TheVariants as part
use Rattle.smv_core.specs.declared.tree.Path.{out-Path}
use Rattle.smv_core.specs.declared.tree.Stmt.TheVariants as stmt
use Rattle.smv_core.specs.declared.tree.Kind.TheVariants as kind
use Rattle.smv_core.specs.declared.tree.Item.{Item}
use Rattle.smv_core.specs.declared.tree.Item.TheVariants as item
use Rattle.smv_core.specs.declared.tree.Role.{Role}
use Rattle.smv_core.specs.declared.tree.Role.TheVariants as role
use Rattle.smv_core.specs.declared.tree.Ref.{Ref}
use Rattle.smv_core.specs.declared.tree.Top.{Top}
use Rattle.smv_core.specs.declared.tree.Top.TheVariants as top
use Rattle.smv_core.specs.Signs.{open_paren, close_paren, open_bracket, close_bracket, open_brace, close_brace, colon, semicolon, comma, dot}
use Rattle.smv_core.specs.Signs as w
use Rattle.smv_core.specs.Notation.{Tokens, same_kind}
use Rattle.smv_core.specs.Grammar.{named, place_of}
use Rattle.smv_core.specs.declared.tree.Text.{Text}
use Rattle.law_grammar.specs.Parsing.{Halt, Halts, Outcome, Parser, bind, pure, take, take_open, fork, fork2, loop}
use Rattle.law_grammar.specs.Marks.{Mark, any_name, exactly, begins}
use Rattle.law_grammar.specs.Readers.{a_token, a_name, an_entry, read_separated, read_separated_or_none, noting}
use Rattle.law_grammar.specs.Expressions.{expr_marks, read_span, read_expr, expr_readers, no_level}
use Rattle.law_grammar.specs.Types.{read_type, type_readers}
use Rattle.law_grammar.specs.Statements.{stmt_marks, read_value, read_worded, stmt_readers}
use Rattle.law_grammar.specs.References.{read_split, read_using, read_used}

-- ---- what begins an item

abbrev pub worded_marks : List Mark
worded_marks = exactly w.word_init ∷ exactly w.word_next ∷ exactly w.word_if ∷ exactly w.word_switch ∷ exactly w.word_default ∷ exactly w.word_for ∷ []

abbrev pub other_marks : List Mark
other_marks = exactly w.word_forall ∷ exactly open_brace ∷ exactly w.word_subcase ∷ exactly w.word_using ∷ worded_marks

abbrev pub item_marks : List Mark
item_marks = any_name ∷ other_marks

abbrev pub role_marks : List Mark
role_marks = exactly w.word_abstract ∷ exactly w.word_input ∷ exactly w.word_output ∷ []

abbrev pub body_marks : List Mark
body_marks = exactly w.word_abstract ∷ exactly w.word_input ∷ exactly w.word_output ∷ exactly w.word_layer ∷ item_marks

abbrev pub top_marks : List Mark
top_marks = exactly w.word_scalarset ∷ exactly w.word_ordset ∷ exactly w.word_typedef ∷ exactly w.word_module ∷ []

abbrev pub roles : List (TokenKind × Role)
roles = (w.word_abstract, role.Abstract) ∷ (w.word_input, role.Input) ∷ (w.word_output, role.Output) ∷ []

-- ---- what stands behind a name

-- the name that stands alone before a closing bracket
abbrev pub name_alone : Tokens → Option Word
name_alone [] = None
name_alone (t ∷ []) = None
name_alone (t ∷ u ∷ ts) = if same_kind u.kind close_bracket then a_name t else None

-- A part of a path, and the name that it is in brackets, where it is one: only such parts may be the variables of a claim.
abbrev pub MarkedPart : Type 0
MarkedPart = Part × Option Word

abbrev pub parts_of : List MarkedPart → List Part
parts_of [] = []
parts_of (u ∷ more) = u.0 ∷ parts_of more

abbrev pub put_before : Option Word → Option (List Word) → Option (List Word)
put_before (Some x) (Some xs) = Some (x ∷ xs)
put_before (Some x) None = None
put_before None xs = None

-- the names, where each part is one in brackets
abbrev pub vars_of : List MarkedPart → Option (List Word)
vars_of [] = Some []
vars_of (u ∷ more) = put_before u.1 (vars_of more)

-- the same, where there is a part
abbrev pub vars_of_some : List MarkedPart → Option (List Word)
vars_of_some [] = None
vars_of_some (u ∷ more) = vars_of (u ∷ more)

module _ (n : ℕ) where
  unfoldable pub read_marked : Parser MarkedPart
  read_marked = fork (begins (exactly dot ∷ [])) (bind (take (a_token dot)) (λ _. bind (take a_name) (λ x. pure (part.Field x, None))))
      (take_open (a_token open_bracket) n (λ _. noting name_alone (bind ((expr_readers n).expr) (λ x. bind (take (a_token close_bracket)) (λ _. pure (part.At x))))))

  -- a claim from its `assert` on
  unfoldable pub read_claimed : Word → List Word → Parser Item
  read_claimed x vars = bind (take (a_token w.word_assert)) (λ _. bind (take (a_token w.word_G)) (λ _. bind (read_expr n (expr_readers n)) (λ body. bind (take (a_token semicolon)) (λ _.
      pure (item.Claim x vars body x.at)))))

  -- an assignment from its `:=` on
  unfoldable pub read_assigned : Word → List Part → Parser Item
  read_assigned x more = bind (read_value n) (λ v. pure (item.Act (stmt.Assign kind.Comb (named x more) v (out-Path (named x more)).at)))

  -- a claim where it may be one, and else an assignment
  unfoldable pub read_claim_or_assignment : Word → List MarkedPart → Option (List Word) → Parser Item
  read_claim_or_assignment x ms None = read_assigned x (parts_of ms)
  read_claim_or_assignment x ms (Some vars) = fork (begins (exactly colon ∷ [])) (bind (take (a_token colon)) (λ _. read_claimed x vars)) (read_assigned x (parts_of ms))

  -- what stands behind the name of a claim or an assignment
  unfoldable pub read_behind : (List MarkedPart → Option (List Word)) → Word → Parser Item
  read_behind vars x = bind (loop (begins (exactly dot ∷ exactly open_bracket ∷ [])) read_marked) (λ ms. read_claim_or_assignment x ms (vars ms))

  unfoldable pub read_named : Parser Item
  read_named = bind (take a_name) (λ x. read_behind vars_of x)

  -- ---- declarations

  -- a declaration from its type on
  unfoldable pub read_declared : Role → List Word → ℕ → Parser Item
  read_declared how names at = bind (read_type n (type_readers n)) (λ of. bind (take (a_token semicolon)) (λ _. pure (item.Declare how names of at)))

  -- an instance from its module on
  unfoldable pub read_instance : List Word → Parser Item
  read_instance names = bind (take a_name) (λ m. take_open (a_token open_paren) n (λ _. bind (read_separated_or_none expr_marks ((expr_readers n).expr)) (λ args. bind (take (a_token close_paren)) (λ _.
      bind (take (a_token semicolon)) (λ _. pure (item.Instance names m args (place_of names)))))))

  -- an instance, where a parenthesis follows a name, and else a declaration
  unfoldable pub read_of_names : List Word → Parser Item
  read_of_names names = fork2 (begins (any_name ∷ [])) (begins (exactly open_paren ∷ [])) (read_instance names) (read_declared role.Plain names (place_of names))

  -- what stands behind the colon of one name or several
  unfoldable pub read_behind_colon : Word → List Word → Parser Item
  read_behind_colon x [] = fork (begins (exactly w.word_assert ∷ [])) (read_claimed x []) (read_of_names (x ∷ []))
  read_behind_colon x (y ∷ more) = read_of_names (x ∷ y ∷ more)

  -- what stands behind the first name, where a comma or a colon follows
  unfoldable pub read_listed : Word → Parser Item
  read_listed x = bind (loop (begins (exactly comma ∷ [])) (bind (take (a_token comma)) (λ _. take a_name))) (λ more. bind (take (a_token colon)) (λ _. read_behind_colon x more))

  unfoldable pub read_named_body : Parser Item
  read_named_body = bind (take a_name) (λ x. fork (begins (exactly comma ∷ exactly colon ∷ [])) (read_listed x) (read_behind vars_of_some x))

  unfoldable pub read_with_role : Parser Item
  read_with_role = bind (take (an_entry roles)) (λ r. bind (read_separated (take a_name)) (λ names. bind (take (a_token colon)) (λ _. read_declared r.0 names r.1)))

  unfoldable pub read_layer : Parser Item
  read_layer = bind (take (a_token w.word_layer)) (λ at. bind (take a_name) (λ x. bind (take (a_token colon)) (λ _. take_open (a_token open_brace) n (λ _.
      bind (loop (begins stmt_marks) ((stmt_readers n).stmt)) (λ body. bind (take (a_token close_brace)) (λ _. pure (item.Layer x body at)))))))

-- ---- within so many levels

-- the parsers for what stands inside an opened level
pub record ItemReaders : Type 0 where
  pub ref : Parser Ref
  pub item : Parser Item
  pub body : Parser Item

module _ (n : ℕ) (inner : ItemReaders) where
  unfoldable pub read_forall_item : Parser Item
  read_forall_item = take_open (a_token w.word_forall) n (λ at. bind ((stmt_readers n).binder) (λ b. bind inner.item (λ body. pure (item.Forall b.0 b.1 body at))))

  unfoldable pub read_block_item : Parser Item
  read_block_item = take_open (a_token open_brace) n (λ _. bind (loop (begins item_marks) inner.item) (λ items. bind (take (a_token close_brace)) (λ _. pure (item.Block items))))

  -- an item that begins with no name
  unfoldable pub read_other_item : Parser Item
  read_other_item = fork (begins (exactly w.word_forall ∷ [])) read_forall_item
      (fork (begins (exactly open_brace ∷ [])) read_block_item
      (fork (begins (exactly w.word_subcase ∷ [])) (read_split n)
      (fork (begins (exactly w.word_using ∷ [])) (read_using n inner.ref) (bind (read_worded n (stmt_readers n)) (λ x. pure (item.Act x))))))

  unfoldable pub read_item : Parser Item
  read_item = fork (begins (any_name ∷ [])) (read_named n) read_other_item

  unfoldable pub read_body : Parser Item
  read_body = fork (begins role_marks) (read_with_role n)
      (fork (begins (exactly w.word_layer ∷ [])) (read_layer n)
      (fork (begins (any_name ∷ [])) (read_named_body n) read_other_item))

  -- ---- the text

  unfoldable pub read_extent : Parser (Option Span × ℕ)
  read_extent = fork (begins (exactly w.word_undefined ∷ [])) (bind (take (a_token w.word_undefined)) (λ at. pure (None, at))) (bind read_span (λ s. pure (Some s.0, s.1)))

  unfoldable pub read_scalarset : Parser Top
  read_scalarset = bind (take (a_token w.word_scalarset)) (λ _. bind (take a_name) (λ x. bind read_extent (λ s. bind (take (a_token semicolon)) (λ _. pure (top.SetType x false s.0 s.1)))))

  unfoldable pub read_ordset : Parser Top
  read_ordset = bind (take (a_token w.word_ordset)) (λ _. bind (take a_name) (λ x. bind (take (a_token w.word_undefined)) (λ at. bind (take (a_token semicolon)) (λ _. pure (top.SetType x true None at)))))

  unfoldable pub read_typedef : Parser Top
  read_typedef = bind (take (a_token w.word_typedef)) (λ at. bind (take a_name) (λ x. bind (read_type n (type_readers n)) (λ of. bind (take (a_token semicolon)) (λ _. pure (top.Alias x of at)))))

  -- a module from its body on
  unfoldable pub read_module_body : ℕ → Word → List Word → Parser Top
  read_module_body at x formals = take_open (a_token open_brace) n (λ _. bind (loop (begins body_marks) inner.body) (λ items. bind (take (a_token close_brace)) (λ _. pure (top.Module x formals items at))))

  unfoldable pub read_module : Parser Top
  read_module = bind (take (a_token w.word_module)) (λ at. bind (take a_name) (λ x. take_open (a_token open_paren) n (λ _. bind (read_separated_or_none (any_name ∷ []) (take a_name)) (λ formals.
      bind (take (a_token close_paren)) (λ _. read_module_body at x formals)))))

  unfoldable pub read_top : Parser Top
  read_top = fork (begins (exactly w.word_scalarset ∷ [])) read_scalarset
      (fork (begins (exactly w.word_ordset ∷ [])) read_ordset
      (fork (begins (exactly w.word_typedef ∷ [])) read_typedef read_module))

-- the parsers where fewer levels are left than this
abbrev pub item_readers : ℕ → ItemReaders
item_readers zero = record { ref = no_level; item = no_level; body = no_level }
item_readers (suc n) = record { ref = read_used n; item = read_item n (item_readers n); body = read_body n (item_readers n) }

-- as many tops as stand one after another
unfoldable pub read_tops : ℕ → Parser (List Top)
read_tops n = loop (begins top_marks) (read_top n (item_readers n))

-- the text, where no token is left
abbrev pub ended : List Top → Tokens → Result Text Halt
ended tops [] = Ok (record { tops = tops })
ended tops (t ∷ rest) = Err (Halts false (t ∷ rest))

abbrev pub whole : Outcome (List Top) → Result Text Halt
whole (Ok p) = ended p.0 p.1
whole (Err h) = Err h

-- a whole list of tokens as a text, or where it halts
unfoldable pub read_text : ℕ → Tokens → Result Text Halt
read_text n ts = whole (read_tops n ts)
