use Rattle.smv_scope.proofs.RepeatedLaws.{repeated-end}
use Rattle.smv_scope.proofs.doubled.repeated.Goals as goal

pub returns : goal.returns
returns c = repeated-end c.args.words.now c.loop-word.seen c.loop-word.word-index c.loop-word.first c.loop-word-test.false c.loop-word.invariant
