-- A function value that reads the statements within fewer levels than a limit.
use Rattle.std.specs.Prelude.{◌≡◌, ◌<◌, ℕ, List, Result, Ok, IfOk, IfErr}
use Rattle.std.specs.declared.alloc.Global.{Global}
use denote.Ref.{Bor}
use Rattle.smv_core.specs.declared.token.Token.{Token}
use Rattle.smv_core.specs.declared.tree.Stmt.{Stmt}
use Rattle.law_grammar.specs.Statements.{read_stmt, stmt_readers}
use Rattle.smv_parse_expressions.specs.declared.stop.Stop.{Stop}
use Rattle.smv_parse_expressions.specs.Answers.{StopsAs}

pub record Nests (limit : ℕ) (pre : Global → ℕ → Bor (List Token) → Type 0) (post : Global → ℕ → Bor (List Token) → Result (Stmt × Bor (List Token)) Stop → Type 0) : Type 0 where
  pub callable : (alloc : Global) (levels : ℕ) (ts : Bor (List Token)) → levels < limit → pre alloc levels ts
  pub found : (alloc : Global) (levels : ℕ) (ts : Bor (List Token)) (r : Result (Stmt × Bor (List Token)) Stop) → post alloc levels ts r
      → IfOk r (λ found. read_stmt levels (stmt_readers levels) ts.now ≡ Ok (found.0, found.1.now))
  pub stop : (alloc : Global) (levels : ℕ) (ts : Bor (List Token)) (r : Result (Stmt × Bor (List Token)) Stop) → post alloc levels ts r
      → IfErr r (λ stop. StopsAs stop (read_stmt levels (stmt_readers levels) ts.now))
