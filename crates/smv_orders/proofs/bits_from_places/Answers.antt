use Rattle.std.proofs.Common.{◌≡◌, ℕ, ◌+◌, ◌<◌, length, sym, ap, subst, ◌∙◌, arith}
use Rattle.law_obligations.specs.Bits.{Bits}
use Rattle.bdd_ops.specs.Functions.{bit_at}
use Rattle.law_arrangements.specs.Arrangements.{spread}
use Rattle.smv_orders.proofs.Orders.{has_at, spread_placed}
use Rattle.smv_orders.proofs.bits_from_places.Goals as goal

pub bounds-values-from : goal.bounds-values-from
bounds-values-from c = subst (λ (n : ℕ). n < length c.args.values.now) (sym c.from.ensures) (c.requires.within _ (has_at c.args.places.now c.loop-place.place-index (omega arith)))

pub returns-clause-bits : goal.returns-clause-bits
returns-clause-bits c = λ order placed b lt.
    let s : Bits = bit_at c.args.values.now in
    let same : 0 + b ≡ b = omega arith in
    c.loop-place.invariant.bits b (omega (arith, lt)) ∙ sym (ap (spread order s) (sym same) ∙ spread_placed order s 0 c.args.places.now placed b lt)
