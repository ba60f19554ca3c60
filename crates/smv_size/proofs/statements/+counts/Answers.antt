use Rattle.std.proofs.Common.{ℕ, ◌+◌, ◌*◌, ◌≤◌, List, length, refl, ap, sym, ◌∙◌, arith}
use Rattle.std.specs.List.{sum_by}
use Rattle.smv_core.specs.Walk.{steps_of}
use Rattle.smv_core.specs.declared.tree.Arm.{Arm, out-Arm}
use Rattle.smv_core.specs.declared.tree.Stmt.{Stmt, If, Switch}
use Rattle.smv_mentions.specs.Sizes as sizes
use Rattle.smv_size.specs.Limits.{capped}
use Rattle.smv_size.proofs.CountLaws.{sum_is, product_is, statements-Default, statements-For, statements-Forall, statements-If, statements-If_else, statements-Switch, statements-Switch_default}
use Rattle.smv_size.proofs.statements.+counts.Goals as goal

abbrev count : Stmt → ℕ
count x = capped (sizes.statements x)

abbrev count_arms : List Arm → ℕ
count_arms arms = sum_by (λ arm. sizes.statements (out-Arm arm).body) arms

pub statements-returns-in-Default : goal.statements-returns-in-Default
statements-returns-in-Default t c =
    let first = sum_is c.plus-in-Default.result 1 c.statements-in-Default.result 1 (sizes.statements c.in-Default.first) c.plus-in-Default.ensures refl (c.statements-in-Default.ensures ∙ ap count c.get-in-Default.ensures) in
    sum_is c.plus-in-Default-2.result c.plus-in-Default.result c.statements-in-Default-2.result (1 + sizes.statements c.in-Default.first) (sizes.statements c.in-Default.second) c.plus-in-Default-2.ensures first (c.statements-in-Default-2.ensures ∙ ap count c.get-in-Default-2.ensures)
    ∙ ap capped (sym (statements-Default c.in-Default.first c.in-Default.second c.in-Default.at)) ∙ ap count (sym c.in-Default.is)

pub statements-returns-in-None : goal.statements-returns-in-None
statements-returns-in-None t c =
    sum_is c.plus-first.result 1 c.statements.result 1 (sizes.statements c.in-If.yes) c.plus-first.ensures refl (c.statements.ensures ∙ ap count c.get.ensures)
    ∙ ap capped (sym (statements-If c.in-If.cond c.in-If.yes c.in-If.at)) ∙ ap (λ y. count (If c.in-If.cond c.in-If.yes y c.in-If.at)) (sym c.in-None.is) ∙ ap count (sym c.in-If.is)

pub statements-returns-in-Some : goal.statements-returns-in-Some
statements-returns-in-Some t c =
    let first = sum_is c.plus-first.result 1 c.statements.result 1 (sizes.statements c.in-If.yes) c.plus-first.ensures refl (c.statements.ensures ∙ ap count c.get.ensures) in
    sum_is c.plus-in-Some.result c.plus-first.result c.statements-in-Some.result (1 + sizes.statements c.in-If.yes) (sizes.statements c.in-Some.no) c.plus-in-Some.ensures first (c.statements-in-Some.ensures ∙ ap count c.get-in-Some.ensures)
    ∙ ap capped (sym (statements-If_else c.in-If.cond c.in-If.yes c.in-Some.no c.in-If.at)) ∙ ap (λ y. count (If c.in-If.cond c.in-If.yes y c.in-If.at)) (sym c.in-Some.is) ∙ ap count (sym c.in-If.is)

pub statements-returns-in-None-other : goal.statements-returns-in-None-other
statements-returns-in-None-other t c =
    sum_is c.plus-first-in-Switch.result 1 c.in_arms.result 1 (count_arms c.in-Switch.arms) c.plus-first-in-Switch.ensures refl (c.in_arms.ensures ∙ ap (λ l. capped (count_arms l)) c.as_slice-in-Switch.ensures)
    ∙ ap capped (sym (statements-Switch c.in-Switch.on c.in-Switch.arms c.in-Switch.at)) ∙ ap (λ y. count (Switch c.in-Switch.on c.in-Switch.arms y c.in-Switch.at)) (sym c.in-None-other.is) ∙ ap count (sym c.in-Switch.is)

pub statements-returns-in-Some-other : goal.statements-returns-in-Some-other
statements-returns-in-Some-other t c =
    let first = sum_is c.plus-first-in-Switch.result 1 c.in_arms.result 1 (count_arms c.in-Switch.arms) c.plus-first-in-Switch.ensures refl (c.in_arms.ensures ∙ ap (λ l. capped (count_arms l)) c.as_slice-in-Switch.ensures) in
    sum_is c.plus-in-Some-other.result c.plus-first-in-Switch.result c.statements-in-Some-other.result (1 + count_arms c.in-Switch.arms) (sizes.statements c.in-Some-other.other) c.plus-in-Some-other.ensures first (c.statements-in-Some-other.ensures ∙ ap count c.get-in-Some-other.ensures)
    ∙ ap capped (sym (statements-Switch_default c.in-Switch.on c.in-Switch.arms c.in-Some-other.other c.in-Switch.at)) ∙ ap (λ y. count (Switch c.in-Switch.on c.in-Switch.arms y c.in-Switch.at)) (sym c.in-Some-other.is) ∙ ap count (sym c.in-Switch.is)

pub statements-returns-in-For : goal.statements-returns-in-For
statements-returns-in-For t c =
    let most : c.turns.result ≤ 65537 = omega (arith, c.turns.ensures.most) in
    let body = product_is c.times.result c.turns.result c.statements-in-For.result (length (steps_of c.in-For.from c.in-For.to c.in-For.closed c.in-For.step)) (sizes.statements c.in-For.body) c.times.ensures c.turns.ensures.turns (c.statements-in-For.ensures ∙ ap count c.get-in-For.ensures) most in
    sum_is c.plus-in-For.result 1 c.times.result 1 (length (steps_of c.in-For.from c.in-For.to c.in-For.closed c.in-For.step) * sizes.statements c.in-For.body) c.plus-in-For.ensures refl body
    ∙ ap capped (sym (statements-For c.in-For.var c.in-For.from c.in-For.to c.in-For.closed c.in-For.step c.in-For.body c.in-For.at)) ∙ ap count (sym c.in-For.is)

pub statements-returns-in-Forall : goal.statements-returns-in-Forall
statements-returns-in-Forall t c =
    sum_is c.plus-in-Forall.result 1 c.statements-in-Forall.result 1 (sizes.statements c.in-Forall.body) c.plus-in-Forall.ensures refl (c.statements-in-Forall.ensures ∙ ap count c.get-in-Forall.ensures)
    ∙ ap capped (sym (statements-Forall c.in-Forall.var c.in-Forall.over c.in-Forall.body c.in-Forall.at)) ∙ ap count (sym c.in-Forall.is)
