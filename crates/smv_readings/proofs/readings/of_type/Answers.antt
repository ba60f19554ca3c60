use Rattle.std.proofs.Common.{ℕ, ◌+◌, ◌<◌, min, length, sym, subst, ap, ◌∙◌}
use Rattle.smv_core.specs.declared.flat.Simple.{Simple}
use Rattle.smv_problem.specs.declared.problem.AbsValue.TheVariants.{Number}
use Rattle.smv_readings.specs.States.{values_in, value_of}
use Rattle.smv_readings.proofs.ReadValues.{place_in_range, number_at, constant_at, value_placed}
use Rattle.smv_readings.proofs.readings.of_type.Goals as goal

pub of_set_type-requires-clause-there : goal.of_set_type-requires-clause-there
of_set_type-requires-clause-there c =
    subst (λ (t : Simple). c.min-place.result < length (values_in c.args.lists.now c.args.types.now t)) c.in-Set.is
    (place_in_range c.args.lists.now c.args.types.now c.args.over c.values-count.result c.args.code c.min-place.result c.values-count.ensures c.if-count-eq0.false (c.min-place.ensures ∙ ap (min c.args.code) c.from.ensures))

pub returns-in-Range : goal.returns-in-Range
returns-in-Range c =
    ap (λ (n : ℕ). Number (n + c.min-place.result)) c.from-in-Range.ensures
    ∙ number_at c.args.lists.now c.args.types.now c.args.over c.in-Range.low c.in-Range.high c.in-Range.is c.values-count.result c.args.code c.min-place.result c.values-count.ensures c.if-count-eq0.false (c.min-place.ensures ∙ ap (min c.args.code) c.from.ensures)

pub returns-in-Enum : goal.returns-in-Enum
returns-in-Enum c = constant_at c.args.lists.now c.args.types.now c.args.over c.in-Enum.list c.in-Enum.is c.values-count.result c.args.code c.min-place.result c.values-count.ensures c.if-count-eq0.false (c.min-place.ensures ∙ ap (min c.args.code) c.from.ensures)

pub returns-in-Set : goal.returns-in-Set
returns-in-Set c =
    c.of_set_type.ensures
    ∙ sym (ap (λ (t : Simple). value_of (values_in c.args.lists.now c.args.types.now t) c.min-place.result) c.in-Set.is)
    ∙ value_placed c.args.lists.now c.args.types.now c.args.over c.values-count.result c.args.code c.min-place.result c.values-count.ensures c.if-count-eq0.false (c.min-place.ensures ∙ ap (min c.args.code) c.from.ensures)
