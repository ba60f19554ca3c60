-- The parser of references, splits and uses, rule by rule.
use Rattle.std.specs.Prelude.{ℕ, Bool, true, false, [], ◌∷◌, Option, Some, None}
use Rattle.smv_core.specs.declared.tree.Word.{Word}
use Rattle.smv_core.specs.declared.tree.Item.{Item}
use Rattle.smv_core.specs.declared.tree.Item.TheVariants as item
use Rattle.smv_core.specs.declared.tree.Pair.{Pair}
use Rattle.smv_core.specs.declared.tree.Ref.{Ref}
use Rattle.smv_core.specs.declared.tree.Use.{Use}
use Rattle.smv_core.specs.declared.tree.Use.TheVariants as uses
use Rattle.smv_core.specs.Signs.{open_paren, close_paren, open_bracket, close_bracket, open_brace, close_brace, semicolon, dot, equal, arrow, slashes}
use Rattle.smv_core.specs.Signs as w
use Rattle.smv_core.specs.Grammar.{RefPart, Dotted, Bracketed, dotted, bracketed}
use Rattle.law_grammar.specs.Parsing.{Parser, bind, pure, take, take_open, fork, fork2, loop}
use Rattle.law_grammar.specs.Marks.{any_name, exactly, begins}
use Rattle.law_grammar.specs.Readers.{a_token, a_name, maybe, read_separated, read_separated_or_none, noting, first_at}
use Rattle.law_grammar.specs.Expressions.{read_sum, expr_readers}

-- what stands behind `//`
unfoldable pub read_layer_name : Parser (Option Word × Bool)
read_layer_name = bind (take a_name) (λ l. pure (Some l, false))

unfoldable pub read_layer_or_free : Parser (Option Word × Bool)
read_layer_or_free = fork (begins (any_name ∷ [])) read_layer_name (bind (take (a_token w.word_free)) (λ _. pure (None, true)))

module _ (n : ℕ) where
  unfoldable pub read_in_brackets : Parser Word
  read_in_brackets = take_open (a_token open_bracket) n (λ _. bind (take a_name) (λ x. bind (take (a_token close_bracket)) (λ _. pure x)))

  unfoldable pub read_ref_part : Parser RefPart
  read_ref_part = fork (begins (exactly dot ∷ [])) (bind (take (a_token dot)) (λ _. bind (take a_name) (λ x. pure (Dotted x)))) (bind read_in_brackets (λ x. pure (Bracketed x)))

  -- a reference, whose layer is read so where `//` stands
  unfoldable pub read_ref_by : Parser (Option Word × Bool) → Parser Ref
  read_ref_by layer = bind (take a_name) (λ x. bind (loop (begins (exactly dot ∷ exactly open_bracket ∷ [])) read_ref_part) (λ parts.
      bind (maybe (exactly slashes ∷ []) (bind (take (a_token slashes)) (λ _. layer)) (None, false)) (λ l.
      pure (record { path = x ∷ dotted parts; names = bracketed parts; layer = l.0; free = l.1; at = x.at }))))

  -- where no `free` may stand
  unfoldable pub read_ref : Parser Ref
  read_ref = read_ref_by read_layer_name

  -- in a Use
  unfoldable pub read_used : Parser Ref
  read_used = read_ref_by read_layer_or_free

  unfoldable pub read_keep : Parser Use
  read_keep = bind (take a_name) (λ x. bind (take (a_token arrow)) (λ _. take_open (a_token open_brace) n (λ _. bind (read_separated_or_none (any_name ∷ []) (take a_name)) (λ names.
      bind (take (a_token close_brace)) (λ _. pure (uses.Keep x names x.at))))))

  -- a use in parentheses, where the reader of the next level is given
  unfoldable pub read_early : Parser Ref → Parser Use
  read_early inner = take_open (a_token open_paren) n (λ _. bind inner (λ r. bind (take (a_token close_paren)) (λ _. pure (uses.Early r))))

  unfoldable pub read_use : Parser Ref → Parser Use
  read_use inner = fork (begins (exactly open_paren ∷ [])) (read_early inner) (fork2 (begins (any_name ∷ [])) (begins (exactly arrow ∷ [])) read_keep (bind read_used (λ r. pure (uses.Plain r))))

  unfoldable pub read_using : Parser Ref → Parser Item
  read_using inner = bind (take (a_token w.word_using)) (λ at. bind (read_separated (read_use inner)) (λ us. bind (take (a_token w.word_prove)) (λ _. bind (read_separated read_ref) (λ proves.
      bind (take (a_token semicolon)) (λ _. pure (item.Using us proves at))))))

  unfoldable pub read_pair : Parser Pair
  read_pair = bind (noting first_at (read_sum n (expr_readers n))) (λ x. bind (take (a_token equal)) (λ _. bind (take a_name) (λ y. pure (record { left = x.0; right = y; at = x.1 }))))

  unfoldable pub read_split : Parser Item
  read_split = bind (take (a_token w.word_subcase)) (λ at. bind (take a_name) (λ x. bind (loop (begins (exactly open_bracket ∷ [])) read_in_brackets) (λ vars. bind (take (a_token w.word_of)) (λ _.
      bind read_ref (λ of. bind (take (a_token w.word_for)) (λ _. bind (read_separated read_pair) (λ pairs. bind (take (a_token semicolon)) (λ _. pure (item.Split x vars of pairs at)))))))))
