use Rattle.std.proofs.Common.{List, drop, sym, ap, ◌+◌, ◌∙◌, ◌++◌}
use Rattle.smv_core.specs.declared.abstract_type.AbsType.{AbsType}
use Rattle.smv_core.specs.declared.flat.SetInfo.{SetInfo}
use Rattle.law_concrete.specs.Sizes.{given_after, next_size}
use Rattle.smv_concrete.specs.Subjects.{whole_types}
use Rattle.smv_concrete.proofs.Forms.{whole-end, whole-step}
use Rattle.smv_concrete.proofs.subjects.whole_types.Goals as goal

pub loop-place-preserved : goal.loop-place-preserved
loop-place-preserved c =
    ap (λ (ts : List AbsType). ts ++ whole_types (drop (c.loop-place.place + 1) c.args.sets.now) c.next_size-size.result.1.now) c.in_ok-push.ensures.items
    ∙ whole-step c.loop-place.types.items c.args.sets.now c.loop-place.place c.index-sets-place.result c.loop-place.left.now c.next_size-size.result.1.now c.next_size-size.result.0 (whole_types c.args.sets.now c.args.sizes.now) c.loop-place-test.true
    c.index-sets-place.is (c.next_size-size.ensures.size ∙ ap (λ (i : SetInfo). next_size i.size c.loop-place.left.now) (sym c.index-sets-place.is))
    (c.next_size-size.ensures.rest ∙ ap (λ (i : SetInfo). given_after i.size c.loop-place.left.now) (sym c.index-sets-place.is)) c.loop-place.invariant

pub returns : goal.returns
returns c = c.from_vec.ensures ∙ whole-end c.loop-place.types.items c.args.sets.now c.loop-place.place c.loop-place.left.now (whole_types c.args.sets.now c.args.sizes.now) c.loop-place-test.false c.loop-place.invariant
