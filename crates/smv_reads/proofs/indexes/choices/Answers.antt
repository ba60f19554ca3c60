use Rattle.smv_reads.proofs.IndexLaws.{choices-kept, choices-over, item-Has}
use Rattle.smv_reads.proofs.indexes.choices.Goals as goal

pub choice-requires-clause-over : goal.choice-requires-clause-over
choice-requires-clause-over c = c.requires.over _ (item-Has c.args.over.now c.loop-place.place _ c.loop-place-test.true)

pub loop-place-preserved : goal.loop-place-preserved
loop-place-preserved c =
    choices-kept c.args.view.now c.args.bindings.now c.args.indexes.now c.args.over.now c.loop-place.place _ c.loop-place.choices.items _ _ _ _ c.loop-place-test.true c.in_ok-push.ensures.items c.in_ok-classes.ensures c.index_at-x.ensures c.loop-place.invariant

pub returns : goal.returns
returns c = choices-over c.args.view.now c.args.bindings.now c.args.indexes.now c.args.over.now c.loop-place.place c.loop-place.choices.items _ c.loop-place-test.false c.loop-place.invariant
