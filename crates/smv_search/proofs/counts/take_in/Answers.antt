use Rattle.std.proofs.Common.{map}
use Rattle.bdd_store.specs.Diagram.{table}
use Rattle.smv_search.specs.Runs.{TakesIn}
use Rattle.smv_search.proofs.Steps.{handed_on}
use Rattle.smv_search.proofs.OneByOne.{start_at, on_at, stop_at, end_at, none_within}
use Rattle.smv_search.proofs.counts.take_in.Goals as goal

pub loop-i-init : goal.loop-i-init
loop-i-init c = record {
  took = λ images. start_at c.args.store.now c.args.all.now c.args.nodes images;
  within = none_within c.args.store.now c.args.nodes;
}

pub returns-in_err-count_front-clause-takes : goal.returns-in_err-count_front-clause-takes
returns-in_err-count_front-clause-takes c images =
    handed_on c.from_residual.result c.in_err-count_front.field-0.0 (TakesIn (record { vars = c.args.store.now.vars; nodes = c.args.nodes; images = images }) (map (table c.args.store.now) c.args.all.now)) c.from_residual.ensures.1
    (stop_at c.args.store.now c.args.all.now c.args.nodes images c.loop-i.i c.in_err-count_front.field-0.0 c.loop-i-test.true (c.loop-i.invariant.took images) c.in_err-count_front.ensures.count)

pub loop-i-preserved : goal.loop-i-preserved
loop-i-preserved c = record {
  took = λ images. on_at c.args.store.now c.args.all.now c.args.nodes images c.loop-i.i c.loop-i-test.true (c.loop-i.invariant.took images) c.in_ok-count_front.ensures.count;
  within = c.in_ok-count_front.ensures.count;
}

pub returns-clause-takes : goal.returns-clause-takes
returns-clause-takes c images = end_at c.args.store.now c.args.all.now c.args.nodes images c.loop-i.i c.loop-i-test.false (c.loop-i.invariant.took images)
