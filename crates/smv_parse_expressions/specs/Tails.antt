-- What is left of a rule of expressions behind its first parts.
use Rattle.std.specs.Prelude.{ℕ, Bool, true, false, [], ◌∷◌}
use Rattle.smv_core.specs.declared.tree.Word.{Word}
use Rattle.smv_core.specs.declared.tree.Expr.{Expr}
use Rattle.smv_core.specs.declared.tree.Expr.TheVariants as expr
use Rattle.smv_core.specs.declared.tree.TypeExpr.{TypeExpr}
use Rattle.smv_core.specs.Signs.{open_paren, open_bracket, close_bracket, open_brace, close_brace, colon, question, equal, differ, less, at_most, greater, at_least, double_arrow}
use Rattle.smv_core.specs.Signs as w
use Rattle.law_grammar.specs.Parsing.{Parser, bind, pure, take, take_open, fork}
use Rattle.law_grammar.specs.Marks.{exactly, begins}
use Rattle.law_grammar.specs.Readers.{a_token, a_name, an_entry, maybe}
use Rattle.law_grammar.specs.Expressions.{comparisons, read_index, read_where, read_condition, read_set, read_reduction, read_modulo, read_implication, expr_readers}

-- the reduction of `&` or else of `|`
unfoldable pub quantified : Bool → Expr → Word → TypeExpr → ℕ → Expr
quantified true = expr.All
quantified false = expr.Any

-- behind the first branch of a conditional: ':' Expr
abbrev pub read_otherwise : ℕ → Expr → Expr → Parser Expr
read_otherwise n c x = bind (take (a_token colon)) (λ _. bind (expr_readers n).expr (λ y. pure (expr.Choose c x y)))

-- behind the condition of a conditional: '?' Expr ':' Expr
abbrev pub read_branches : ℕ → Expr → Parser Expr
read_branches n c = take_open (a_token question) n (λ _. bind (expr_readers n).expr (λ x. read_otherwise n c x))

-- behind the 'in' of a reduction: Index ']'
abbrev pub read_bounds : Bool → ℕ → Expr → Word → Parser Expr
read_bounds all at x v = bind read_index (λ over. bind (take (a_token close_bracket)) (λ _. pure (quantified all x v over at)))

-- behind the body of a reduction: ':' name 'in' Index ']'
abbrev pub read_binding : Bool → ℕ → Expr → Parser Expr
read_binding all at x = bind (take (a_token colon)) (λ _. bind (take a_name) (λ v. bind (take (a_token w.word_in)) (λ _. read_bounds all at x v)))

-- behind the sign of a reduction: '[' Expr ':' name 'in' Index ']'
abbrev pub read_reduced : ℕ → Bool → ℕ → Parser Expr
read_reduced n all at = take_open (a_token open_bracket) n (λ _. bind (expr_readers n).expr (λ x. read_binding all at x))

-- behind the 'in' of a comprehension: Index [ ',' Expr ] '}'
abbrev pub read_range : ℕ → ℕ → Word → Parser Expr
read_range n at x = bind read_index (λ over. bind (read_where n (expr_readers n)) (λ cond. bind (take (a_token close_brace)) (λ _. pure (expr.Each x over cond at))))

-- what stands between signs: '(' Expr ')' | Set | Reduction
abbrev pub read_grouped : ℕ → Parser Expr
read_grouped n = fork (begins (exactly open_paren ∷ [])) (read_condition n (expr_readers n))
    (fork (begins (exactly open_brace ∷ [])) (read_set n (expr_readers n)) (read_reduction n (expr_readers n)))

-- behind the left side of a comparison: ( '=' | '~=' | '<' | '<=' | '>' | '>=' ) Mod
abbrev pub read_compared : ℕ → Expr → Parser Expr
read_compared n x = bind (take (an_entry comparisons)) (λ o. bind (read_modulo n (expr_readers n)) (λ y. pure (expr.Compare o.0 x y)))

-- behind what is to be in a set: 'in' Set
abbrev pub read_within : ℕ → Expr → Parser Expr
read_within n x = bind (take (a_token w.word_in)) (λ _. bind (read_set n (expr_readers n)) (λ s. pure (expr.Within x s)))

-- behind the first sum of a comparison, and its 'mod': [ ( '=' | '~=' | '<' | '<=' | '>' | '>=' ) Mod | 'in' Set ]
abbrev pub read_related : ℕ → Expr → Parser Expr
read_related n x = fork (begins (exactly equal ∷ exactly differ ∷ exactly less ∷ exactly at_most ∷ exactly greater ∷ exactly at_least ∷ []))
    (read_compared n x) (maybe (exactly w.word_in ∷ []) (read_within n x) x)

-- behind the left side of an equivalence: '<->' Imp
abbrev pub read_equivalent : ℕ → Expr → Parser Expr
read_equivalent n x = bind (take (a_token double_arrow)) (λ _. bind (read_implication n (expr_readers n)) (λ y. pure (expr.Iff x y)))

-- behind what may be the left side of an equivalence: [ '<->' Imp ]
abbrev pub read_equated : ℕ → Expr → Parser Expr
read_equated n x = maybe (exactly double_arrow ∷ []) (read_equivalent n x) x

-- behind what may be a condition: [ '?' Expr ':' Expr ]
abbrev pub read_chosen : ℕ → Expr → Parser Expr
read_chosen n c = maybe (exactly question ∷ []) (read_branches n c) c
