use Rattle.std.proofs.Common.{map, sym, ◌∙◌, arith}
use Rattle.smv_spots.specs.Spots.{place_in}
use Rattle.smv_wires.specs.Ready.{is_ready_for}
use Rattle.smv_wires.proofs.Readiness.{all_more, all_through}
use Rattle.smv_wires.proofs.ready.are_ready_for.Goals as goal

pub loop-demand-preserved : goal.loop-demand-preserved
loop-demand-preserved c n =
    all_more (is_ready_for c.args.tried.now c.args.element.now (map (place_in n) c.args.indexes.now)) c.args.demands.now c.loop-demand.demand-index c.demand-item.result c.loop-demand-test.true c.demand-item.is
    (sym (c.is_ready_for.ensures n) ∙ c.if-not-is_ready_for.false) (c.loop-demand.invariant n)

pub returns : goal.returns
returns c n = all_through (is_ready_for c.args.tried.now c.args.element.now (map (place_in n) c.args.indexes.now)) c.args.demands.now c.loop-demand.demand-index (omega arith) (c.loop-demand.invariant n)
