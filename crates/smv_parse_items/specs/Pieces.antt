-- Parts of readers that a function of their own reads.
use Rattle.std.specs.Prelude.{ℕ, List, [], ◌∷◌, ◌++◌, Option, Some, None, Ok}
use Rattle.smv_core.specs.declared.tree.Word.{Word}
use Rattle.smv_core.specs.declared.tree.Use.{Use}
use Rattle.smv_core.specs.declared.tree.Use.TheVariants as uses
use Rattle.smv_core.specs.declared.tree.Item.{Item}
use Rattle.smv_core.specs.declared.tree.Item.TheVariants as item
use Rattle.smv_core.specs.declared.tree.Expr.{Expr}
use Rattle.smv_core.specs.declared.tree.Part.{Part}
use Rattle.smv_core.specs.declared.tree.Ref.{Ref}
use Rattle.smv_core.specs.declared.tree.Span.{Span}
use Rattle.smv_core.specs.declared.tree.Top.{Top}
use Rattle.smv_core.specs.Signs.{comma, colon, semicolon, dot, open_bracket, open_brace, close_brace, open_paren, close_paren}
use Rattle.smv_core.specs.Signs as w
use Rattle.smv_core.specs.Grammar.{RefPart, dotted, bracketed, place_of}
use Rattle.law_grammar.specs.Parsing.{Outcome, Parser, and_then, bind, pure, take, take_open, fork, loop}
use Rattle.law_grammar.specs.Marks.{any_name, exactly, begins}
use Rattle.law_grammar.specs.Readers.{a_token, a_name, read_separated, read_separated_or_none}
use Rattle.law_grammar.specs.Expressions.{expr_marks, read_span, expr_readers}
use Rattle.law_grammar.specs.Statements.{stmt_marks, stmt_readers}
use Rattle.law_grammar.specs.Items.{MarkedPart, parts_of, vars_of, vars_of_some, read_marked, read_assigned, read_claimed, read_behind, read_listed, read_module_body, item_readers}
use Rattle.law_grammar.specs.References.{read_ref_part, read_ref, read_pair}

-- the names that lead from a first one, and those in brackets
abbrev pub read_names : ℕ → Word → Parser (List Word × List Word)
read_names n x = bind (loop (begins (exactly dot ∷ exactly open_bracket ∷ [])) (read_ref_part n)) (λ parts. pure (x ∷ dotted parts, bracketed parts))

-- the parts of a reference behind names that are read already, in both kinds
abbrev pub gathered : List Word → List Word → Outcome (List RefPart) → Outcome (List Word × List Word)
gathered path names o = and_then o (λ parts rest. Ok ((path ++ dotted parts, names ++ bracketed parts), rest))

-- the names that stay apart, behind a set type and `->`
abbrev pub read_keep_behind : ℕ → Word → Parser Use
read_keep_behind n x = take_open (a_token open_brace) n (λ _. bind (read_separated_or_none (any_name ∷ []) (take a_name)) (λ names. bind (take (a_token close_brace)) (λ _. pure (uses.Keep x names x.at))))

-- a split from its `for` on
abbrev pub read_split_for : ℕ → ℕ → Word → List Word → Ref → Parser Item
read_split_for n at x vars of = bind (take (a_token w.word_for)) (λ _. bind (read_separated (read_pair n)) (λ pairs. bind (take (a_token semicolon)) (λ _. pure (item.Split x vars of pairs at))))

-- a split from its `of` on
abbrev pub read_split_behind : ℕ → ℕ → Word → List Word → Parser Item
read_split_behind n at x vars = bind (take (a_token w.word_of)) (λ _. bind (read_ref n) (λ of. read_split_for n at x vars of))

-- the names in brackets, with the next one, where each part is one
abbrev pub put_after : Option (List Word) → Option Word → Option (List Word)
put_after None x = None
put_after (Some xs) None = None
put_after (Some xs) (Some x) = Some (xs ++ x ∷ [])

abbrev pub joined : Option (List Word) → Option (List Word) → Option (List Word)
joined None ys = None
joined (Some xs) None = None
joined (Some xs) (Some ys) = Some (xs ++ ys)

-- the parts behind parts that are read already, and their names in brackets
abbrev pub divided : List Part → Option (List Word) → Outcome (List MarkedPart) → Outcome (List Part × Option (List Word))
divided parts vars o = and_then o (λ ms rest. Ok ((parts ++ parts_of ms, joined vars (vars_of ms)), rest))

-- the parts behind a name, and the names where each part is one in brackets
abbrev pub read_parts : ℕ → Parser (List Part × Option (List Word))
read_parts n ts = divided [] (Some []) (loop (begins (exactly dot ∷ exactly open_bracket ∷ [])) (read_marked n) ts)

-- what stands behind the parts: a claim where it may be one, and else an assignment
abbrev pub read_chosen : ℕ → Word → List Part → Option (List Word) → Parser Item
read_chosen n x parts None = read_assigned n x parts
read_chosen n x parts (Some vars) = fork (begins (exactly colon ∷ [])) (bind (take (a_token colon)) (λ _. read_claimed n x vars)) (read_assigned n x parts)

-- the end of an instance, behind its arguments
abbrev pub read_instance_end : List Word → Word → List Expr → Parser Item
read_instance_end names m args = bind (take (a_token close_paren)) (λ _. bind (take (a_token semicolon)) (λ _. pure (item.Instance names m args (place_of names))))

-- the arguments of an instance
abbrev pub read_instance_behind : ℕ → List Word → Word → Parser Item
read_instance_behind n names m = take_open (a_token open_paren) n (λ _. bind (read_separated_or_none expr_marks ((expr_readers n).expr)) (λ args. read_instance_end names m args))

-- the statements of a layer
abbrev pub read_layer_behind : ℕ → ℕ → Word → Parser Item
read_layer_behind n at x = take_open (a_token open_brace) n (λ _. bind (loop (begins stmt_marks) ((stmt_readers n).stmt)) (λ body. bind (take (a_token close_brace)) (λ _. pure (item.Layer x body at))))

-- 'undefined' or a span
abbrev pub read_any_extent : Parser (Option Span × ℕ)
read_any_extent = fork (begins (exactly w.word_undefined ∷ [])) (bind (take (a_token w.word_undefined)) (λ at. pure (None, at))) (bind read_span (λ s. pure (Some s.0, s.1)))

-- the formals and the body of a module
abbrev pub read_module_behind : ℕ → ℕ → Word → Parser Top
read_module_behind n at x = take_open (a_token open_paren) n (λ _. bind (read_separated_or_none (any_name ∷ []) (take a_name)) (λ formals. bind (take (a_token close_paren)) (λ _. read_module_body n (item_readers n) at x formals)))

-- ---- what stands in a body

-- behind a name in a body: what a comma or a colon leads, and else a claim or an assignment
abbrev pub read_named_behind : ℕ → Word → Parser Item
read_named_behind n x = fork (begins (exactly comma ∷ exactly colon ∷ [])) (read_listed n x) (read_behind n vars_of_some x)
