use Rattle.std.proofs.Common.{map, sym, ◌∙◌, ◌&&◌, arith}
use Rattle.smv_spots.specs.Spots.{place_in}
use Rattle.smv_problem.specs.declared.problem.Demand.{Demand}
use Rattle.smv_encode.specs.ChosenDemands.{is_of, is_moving}
use Rattle.smv_encode.proofs.Choices.{none_moves, none_moves_all}
use Rattle.smv_encode.proofs.chosen.some_moves.Goals as goal

pub loop-demand-preserved : goal.loop-demand-preserved
loop-demand-preserved c n =
    none_moves (λ (d : Demand). is_of c.args.element.now d && is_moving (map (place_in n) c.args.indexes.now) d) c.args.demands.now c.loop-demand.demand-index c.demand-item.result _ c.loop-demand-test.true c.demand-item.is (sym (c.is_moved.ensures n) ∙ c.if-is_moved.false) (c.loop-demand.invariant n)

pub returns : goal.returns
returns c n = none_moves_all (λ (d : Demand). is_of c.args.element.now d && is_moving (map (place_in n) c.args.indexes.now) d) c.args.demands.now c.loop-demand.demand-index _ (omega arith) (c.loop-demand.invariant n)
