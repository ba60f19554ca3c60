use Rattle.std.proofs.Common.{◌≡◌, ℕ, ◌+◌, List, [], ◌∷◌, ◌++◌, sym, ap, ◌∙◌, arith}
use Rattle.smv_core.specs.Values.{numbers_from}
use Rattle.smv_orders.proofs.Orders.{numbers_pushed}
use Rattle.smv_orders.proofs.first_numbers.Goals as goal

pub loop-number-preserved : goal.loop-number-preserved
loop-number-preserved c =
    let n : ℕ = c.loop-number.number in
    let same : n ≡ 0 + n = omega arith in
    c.in_ok-push.ensures.items ∙ ap (λ (xs : List ℕ). xs ++ n ∷ []) c.loop-number.invariant ∙ ap (λ (m : ℕ). numbers_from 0 n ++ m ∷ []) same ∙ sym (numbers_pushed 0 n)
