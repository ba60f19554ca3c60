use Rattle.std.proofs.Common.{◌<◌, ℕ, length, sym, subst}
use Rattle.smv_bit_order.proofs.Picked.{place_within, one_more}
use Rattle.smv_bit_order.proofs.candidates.elements_at.Goals as goal

pub bounds-all-from : goal.bounds-all-from
bounds-all-from c = subst (λ (n : ℕ). n < length c.args.all.now) (sym c.from.ensures) (place_within c.args.places.now (length c.args.all.now) c.requires c.loop-place.place-index c.loop-place-test.true)

pub loop-place-preserved : goal.loop-place-preserved
loop-place-preserved c =
    one_more c.args.all.now c.args.places.now c.loop-place.place-index c.loop-place.elements.items c.loop-place.invariant c.loop-place-test.true c.from.result c.from.ensures
    (subst (λ (n : ℕ). n < length c.args.all.now) (sym c.from.ensures) (place_within c.args.places.now (length c.args.all.now) c.requires c.loop-place.place-index c.loop-place-test.true))
    c.index-all-from.result c.index-all-from.is c.in_ok-copied.field-0 c.in_ok-copied.ensures c.push.new.self.items c.in_ok-push.ensures.items
