use Rattle.std.proofs.Common.{map, ap, sym, ◌∙◌}
use Rattle.law_lists.proofs.Places.{drop_past}
use Rattle.law_designs.specs.Kinds.{Operand}
use Rattle.smv_core.specs.declared.tree.Expr.{Expr}
use Rattle.law_designs.specs.Operands.{operand}
use Rattle.smv_expression_kinds.specs.Found.{vars_of, scope_of}
use Rattle.smv_operand_kinds.specs.Found.{begin, or_zero}
use Rattle.smv_operand_kinds.proofs.KindLaws.{begin-first}
use Rattle.smv_operand_kinds.proofs.operands.+operands.Goals as goal

pub numbers-returns-clause-at : goal.numbers-returns-clause-at
numbers-returns-clause-at t c =
    let f : Expr → Operand = operand (scope_of c.args.scope.now) (vars_of c.args.scope.now.tables.now.names c.args.vars.now) in
    c.number_at.ensures.at ∙ c.begin_of.ensures
    ∙ ap or_zero (sym (ap (λ l. begin c.loop-x.first (map f l)) (drop_past c.args.parts.now c.loop-x.x-index c.loop-x-test.false)) ∙ c.loop-x.invariant.at)
    ∙ sym (begin-first (map f c.args.parts.now))
