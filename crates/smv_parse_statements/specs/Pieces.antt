-- Parts of readers that a function of their own reads.
use Rattle.std.specs.Prelude.{ℕ, Bool}
use Rattle.smv_core.specs.declared.tree.Word.{Word}
use Rattle.smv_core.specs.declared.tree.Stmt.{Stmt}
use Rattle.smv_core.specs.declared.tree.Stmt.TheVariants as stmt
use Rattle.smv_core.specs.declared.tree.Kind.{Kind}
use Rattle.smv_core.specs.Signs.{equal, plus, semicolon, open_paren, close_paren}
use Rattle.smv_core.specs.Grammar.{Turns}
use Rattle.law_grammar.specs.Parsing.{Parser, bind, pure, take, take_open}
use Rattle.law_grammar.specs.Readers.{a_token, a_number, a_same_name}
use Rattle.law_grammar.specs.Statements.{a_positive, read_bound, read_value, stmt_readers}

-- the header of a `for` behind the name of its variable
abbrev pub read_counted : Word → Parser Turns
read_counted x = bind (take (a_token equal)) (λ _. bind (take a_number) (λ from. bind (take (a_token semicolon)) (λ _. read_bound x from.0)))

-- the step of a `for`, whose bound is known
abbrev pub read_stepped : Word → ℕ → Bool → ℕ → Parser Turns
read_stepped x from closed to = bind (take (a_same_name x)) (λ _. bind (take (a_token equal)) (λ _. bind (take (a_same_name x)) (λ _. bind (take (a_token plus)) (λ _. bind (take a_positive) (λ step. bind (take (a_token close_paren)) (λ _.
    pure (record { var = x; from = from; to = to; closed = closed; step = step })))))))

-- an assignment of this kind behind its word
abbrev pub read_timed_behind : ℕ → Kind → ℕ → Parser Stmt
read_timed_behind n k at = take_open (a_token open_paren) n (λ _. bind (stmt_readers n).path (λ p. bind (take (a_token close_paren)) (λ _. bind (read_value n) (λ x. pure (stmt.Assign k p x at)))))
