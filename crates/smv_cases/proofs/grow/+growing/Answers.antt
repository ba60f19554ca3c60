use Rattle.std.proofs.Common.{◌≡◌, ◌+◌, ◌-◌, ◌<◌, ◌++◌, map, length, ap, sym, subst, ◌∙◌, arith}
use Rattle.std.specs.List.{flat_map}
use Rattle.smv_core.specs.Values.{numbers_from}
use Rattle.smv_core.specs.declared.flat.Class.TheVariants as class
use Rattle.smv_cases.specs.Slots.{grown_behind, classes_of, Gathers}
use Rattle.smv_cases.proofs.Gathering.{few, many, after, more_behind, limited, one_more, too_many}
use Rattle.smv_cases.proofs.grow.+growing.Goals as goal

pub numbers-returns-then-not-branch : goal.numbers-returns-then-not-branch
numbers-returns-then-not-branch t c =
    let h = many c.in_ok-grow_behind.field-0 (classes_of c.loop-value.found.items) (classes_of c.grow_behind.new.found.items) (grown_behind c.args.slots.now c.args.before.now c.args.more.now (class.Number c.loop-value.value)) c.if-not-branch.true c.in_ok-grow_behind.ensures in
    too_many (λ x. class.Number x) (grown_behind c.args.slots.now c.args.before.now c.args.more.now) c.args.low c.loop-value.value (c.args.high + 1 - c.args.low) (classes_of c.args.found.now.items) (classes_of c.loop-value.found.items) (omega arith) (omega arith) c.loop-value.invariant.found h

pub numbers-loop-value-preserved : goal.numbers-loop-value-preserved
numbers-loop-value-preserved t c =
    let h = few c.in_ok-grow_behind.field-0 (classes_of c.loop-value.found.items) (classes_of c.grow_behind.new.found.items) (grown_behind c.args.slots.now c.args.before.now c.args.more.now (class.Number c.loop-value.value)) c.if-not-branch.false c.in_ok-grow_behind.ensures in
    record { found = one_more (λ x. class.Number x) (grown_behind c.args.slots.now c.args.before.now c.args.more.now) c.args.low c.loop-value.value (classes_of c.args.found.now.items) (classes_of c.loop-value.found.items) (classes_of c.grow_behind.new.found.items) (omega arith) c.loop-value.invariant.found h.0; within = omega (arith, c.from-value.ensures, c.from-value-end.ensures); few = h.1 }

pub named-returns-then-not-branch : goal.named-returns-then-not-branch
named-returns-then-not-branch t c =
    let h = many c.in_ok-grow_behind.field-0 (classes_of c.loop-place.found.items) (classes_of c.grow_behind.new.found.items) (grown_behind c.args.slots.now c.args.before.now c.args.more.now (class.Named c.loop-place.place)) c.if-not-branch.true c.in_ok-grow_behind.ensures in
    too_many (λ x. class.Named x) (grown_behind c.args.slots.now c.args.before.now c.args.more.now) 0 c.loop-place.place c.args.count (classes_of c.args.found.now.items) (classes_of c.loop-place.found.items) (omega arith) (omega arith) c.loop-place.invariant.found h

pub named-loop-place-preserved : goal.named-loop-place-preserved
named-loop-place-preserved t c =
    let h = few c.in_ok-grow_behind.field-0 (classes_of c.loop-place.found.items) (classes_of c.grow_behind.new.found.items) (grown_behind c.args.slots.now c.args.before.now c.args.more.now (class.Named c.loop-place.place)) c.if-not-branch.false c.in_ok-grow_behind.ensures in
    record { found = one_more (λ x. class.Named x) (grown_behind c.args.slots.now c.args.before.now c.args.more.now) 0 c.loop-place.place (classes_of c.args.found.now.items) (classes_of c.loop-place.found.items) (classes_of c.grow_behind.new.found.items) (omega arith) c.loop-place.invariant.found h.0; few = h.1 }

pub rests-returns-then-not-branch : goal.rests-returns-then-not-branch
rests-returns-then-not-branch t c =
    let h = many c.in_ok-grow_behind.field-0 (classes_of c.loop-place.found.items) (classes_of c.grow_behind.new.found.items) (grown_behind c.args.slots.now c.args.before.now c.args.more.now (class.Rest c.loop-place.place)) c.if-not-branch.true c.in_ok-grow_behind.ensures in
    too_many (λ x. class.Rest x) (grown_behind c.args.slots.now c.args.before.now c.args.more.now) 0 c.loop-place.place c.args.count (classes_of c.args.found.now.items) (classes_of c.loop-place.found.items) (omega arith) (omega arith) c.loop-place.invariant.found h

pub rests-loop-place-preserved : goal.rests-loop-place-preserved
rests-loop-place-preserved t c =
    let h = few c.in_ok-grow_behind.field-0 (classes_of c.loop-place.found.items) (classes_of c.grow_behind.new.found.items) (grown_behind c.args.slots.now c.args.before.now c.args.more.now (class.Rest c.loop-place.place)) c.if-not-branch.false c.in_ok-grow_behind.ensures in
    record { found = one_more (λ x. class.Rest x) (grown_behind c.args.slots.now c.args.before.now c.args.more.now) 0 c.loop-place.place (classes_of c.args.found.now.items) (classes_of c.loop-place.found.items) (classes_of c.grow_behind.new.found.items) (omega arith) c.loop-place.invariant.found h.0; few = h.1 }

pub numbers-returns : goal.numbers-returns
numbers-returns t c =
    let n : c.loop-value.value - c.args.low ≡ c.args.high + 1 - c.args.low = omega (arith, c.loop-value.invariant.within, c.loop-value.auto.value, c.from-value.ensures, c.from-value-end.ensures) in
    (c.loop-value.invariant.found ∙ ap (λ n. classes_of c.args.found.now.items ++ flat_map (grown_behind c.args.slots.now c.args.before.now c.args.more.now) (map (λ x. class.Number x) (numbers_from c.args.low n))) n, c.loop-value.invariant.few)

pub classes-returns-then-not-branch : goal.classes-returns-then-not-branch
classes-returns-then-not-branch t c =
    let first = flat_map (grown_behind c.args.slots.now c.args.before.now c.args.more.now) (map (λ x. class.Named x) (numbers_from 0 c.limits_at-limits.result.named)) in
    let second = flat_map (grown_behind c.args.slots.now c.args.before.now c.args.more.now) (map (λ x. class.Rest x) (numbers_from 0 c.limits_at-limits.result.rests)) in
    let h = many c.in_ok-named.field-0 (classes_of c.args.found.now.items) (classes_of c.named.new.found.items) first c.if-not-branch.true c.in_ok-named.ensures in
    subst (λ xs. 4096 < length (classes_of c.args.found.now.items) + length xs)
    (sym (limited c.args.slots.now c.args.before.now c.args.slot.now c.args.more.now (length c.args.slots.now) c.limits_at-limits.result c.limits_at-limits.ensures.named c.limits_at-limits.ensures.rests c.limits_at-limits.ensures.stands))
    (more_behind (classes_of c.args.found.now.items) first second h)

pub classes-returns : goal.classes-returns
classes-returns t c =
    let first = flat_map (grown_behind c.args.slots.now c.args.before.now c.args.more.now) (map (λ x. class.Named x) (numbers_from 0 c.limits_at-limits.result.named)) in
    let second = flat_map (grown_behind c.args.slots.now c.args.before.now c.args.more.now) (map (λ x. class.Rest x) (numbers_from 0 c.limits_at-limits.result.rests)) in
    let h = few c.in_ok-named.field-0 (classes_of c.args.found.now.items) (classes_of c.named.new.found.items) first c.if-not-branch.false c.in_ok-named.ensures in
    subst (λ xs. Gathers c.rests.result (classes_of c.args.found.now.items) (classes_of c.rests.new.found.items) xs)
    (sym (limited c.args.slots.now c.args.before.now c.args.slot.now c.args.more.now (length c.args.slots.now) c.limits_at-limits.result c.limits_at-limits.ensures.named c.limits_at-limits.ensures.rests c.limits_at-limits.ensures.stands))
    (after c.rests.result (classes_of c.args.found.now.items) (classes_of c.named.new.found.items) (classes_of c.rests.new.found.items) first second h.0 c.rests.ensures)
