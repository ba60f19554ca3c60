-- A function value that reads what stands inside an opened level.
use Rattle.std.specs.Prelude.{◌≡◌, ℕ, Bool, List, Result, Ok, IfOk, IfErr, if◌then◌else◌}
use Rattle.std.specs.declared.alloc.Global.{Global}
use denote.Ref.{Bor}
use Rattle.smv_core.specs.declared.token.Token.{Token}
use Rattle.smv_core.specs.declared.tree.Expr.{Expr}
use Rattle.law_grammar.specs.Parsing.{Parser}
use Rattle.law_grammar.specs.Expressions.{expr_readers}
use Rattle.smv_parse_expressions.specs.declared.stop.Stop.{Stop}
use Rattle.smv_parse_expressions.specs.Answers.{StopsAs}

-- the operand of a `~`, or an expression, where fewer levels are left than this
abbrev pub read_inner : ℕ → Bool → Parser Expr
read_inner levels operand = if operand then (expr_readers levels).negation else (expr_readers levels).expr

-- it may be called, and answers what is read
pub record Nests (levels : ℕ) (pre : Global → ℕ → Bool → Bor (List Token) → Type 0)
    (post : Global → ℕ → Bool → Bor (List Token) → Result (Expr × Bor (List Token)) Stop → Type 0) : Type 0 where
  pub callable : (alloc : Global) (operand : Bool) (tokens : Bor (List Token)) → pre alloc levels operand tokens
  pub finds : (alloc : Global) (operand : Bool) (tokens : Bor (List Token)) (r : Result (Expr × Bor (List Token)) Stop) → post alloc levels operand tokens r
      → IfOk r (λ found. read_inner levels operand tokens.now ≡ Ok (found.0, found.1.now))
  pub stops : (alloc : Global) (operand : Bool) (tokens : Bor (List Token)) (r : Result (Expr × Bor (List Token)) Stop) → post alloc levels operand tokens r
      → IfErr r (λ stop. StopsAs stop (read_inner levels operand tokens.now))
