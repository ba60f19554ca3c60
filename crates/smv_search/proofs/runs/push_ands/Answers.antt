use Rattle.smv_search.proofs.Opening.{acts_and, refs_and}
use Rattle.smv_search.proofs.runs.push_ands.Goals as goal

pub loop-f-preserved : goal.loop-f-preserved
loop-f-preserved c = record {
  acts = λ d k. acts_and d k c.args.ops.now.items c.loop-f.ops.items c.push.new.self.items c.args.fs.now c.loop-f.f-index (record { place = 0 }) c.loop-f-test.true c.in_ok-push.ensures.items (c.loop-f.invariant.acts d k);
  refs = refs_and c.args.ops.now.items c.loop-f.ops.items c.push.new.self.items c.args.fs.now c.loop-f.f-index (record { place = 0 }) c.loop-f-test.true c.in_ok-push.ensures.items c.loop-f.invariant.refs;
}
