-- What is read is no less than the canonical tokens.
use Rattle.std.proofs.Common.{◌≡◌, ℕ, ◌≤◌, [], length, ap, sym, ◌∙◌, arith}
use Rattle.smv_core.specs.declared.tree.Expr.{Expr}
use Rattle.smv_core.specs.Notation.{Tokens}
use Rattle.smv_print.specs.Written.{Kinds}
use Rattle.smv_print.specs.Expressions.{spelled, within, expr_kinds}
use Rattle.law_print_and_parse.specs.Aside.{expr_aside}
use Rattle.law_grammar.specs.Laws.{SpellsExpr}
use Rattle.law_print_and_parse.proofs.FrugalWithin.{expression-fair}
use Rattle.law_print_and_parse.proofs.Pairs.{too-few}
use Rattle.law_print_and_parse.proofs.spelling.fewest_tokens.Goals as goal

one-spelling : (n m : ℕ) (ts us : Tokens) (x y : Expr) → SpellsExpr n ts x → SpellsExpr m us y → expr_aside y ≡ expr_aside x → expr_kinds y ≡ expr_kinds x
one-spelling n m ts us x y h k e =
    let a = expression-fair n ts x [] h in
    let b = expression-fair m us y [] k in
    ap (within 0) (sym b.alike ∙ ap spelled e ∙ a.alike)

shortest : (n m : ℕ) (ts us : Tokens) (x y : Expr) → SpellsExpr n ts x → SpellsExpr m us y → expr_aside y ≡ expr_aside x → length (expr_kinds x) ≤ length us
shortest n m ts us x y h k e =
    let b = expression-fair m us y [] k in
    let l = b.short.least in
    let d : length (expr_kinds y) ≡ length (expr_kinds x) = ap (λ (ks : Kinds). length ks) (one-spelling n m ts us x y h k e) in
    omega arith

pub returns-clause-one : goal.returns-clause-one
returns-clause-one c n m ts us x y h k e = one-spelling n m ts us x y h k e

pub returns-clause-shortest : goal.returns-clause-shortest
returns-clause-shortest c n m ts us x y h k e = shortest n m ts us x y h k e

pub returns-clause-needed : goal.returns-clause-needed
returns-clause-needed c n m ts us x y h out k e = too-few (expr_kinds x) us (shortest n m ts us x y h k e) out
