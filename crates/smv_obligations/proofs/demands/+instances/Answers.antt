use Rattle.std.proofs.Common.{List, [], ◌∷◌, ◌++◌, ◌+◌, drop, ap, sym, ◌∙◌, arith}
use Rattle.std.specs.List.{flat_map}
use Rattle.smv_core.specs.declared.flat.Param.{Param}
use Rattle.smv_spots.specs.declared.spots.Spot.{Spot}
use Rattle.smv_problem.specs.declared.problem.Demand.{Demand}
use Rattle.smv_obligations.specs.Demands.{held_from, spots_of}
use Rattle.smv_obligations.proofs.Lists.{turn-kept, turns-over, on-ok-more}
use Rattle.smv_obligations.proofs.InstanceLaws.{instances-at, instances-over}
use Rattle.smv_obligations.proofs.demands.+instances.Goals as goal

pub put_turns-loop-p-preserved : goal.put_turns-loop-p-preserved
put_turns-loop-p-preserved t c =
    turn-kept (λ (p : Spot). held_from c.args.part.now (c.args.front.now ++ p ∷ []) (drop c.args.place c.args.params.now) c.args.body.now) c.args.spots.now c.loop-p.p-index _ c.loop-p.demands _ _ c.loop-p-test.true
    (c.in_ok-put_instances.ensures ∙ ap (λ (b : List Spot). c.loop-p.demands ++ held_from c.args.part.now b (drop c.args.place c.args.params.now) c.args.body.now) (c.as_slice-listed.ensures.value ∙ c.in_ok-begun.ensures)) c.loop-p.invariant

pub put_turns-returns : goal.put_turns-returns
put_turns-returns t c =
    turns-over (λ (p : Spot). held_from c.args.part.now (c.args.front.now ++ p ∷ []) (drop c.args.place c.args.params.now) c.args.body.now) c.args.spots.now c.loop-p.p-index c.loop-p.demands _ c.loop-p-test.false c.loop-p.invariant

pub put_instances-returns-in_ok-spots : goal.put_instances-returns-in_ok-spots
put_instances-returns-in_ok-spots t c =
    on-ok-more c.put_turns.result c.put_turns.new.demands
    (c.args.demands.now ++ flat_map (λ (p : Spot). held_from c.args.part.now (c.args.front.now ++ p ∷ []) (drop (c.args.place + 1) c.args.params.now) c.args.body.now) c.as_slice-listed.result.now)
    (c.args.demands.now ++ held_from c.args.part.now c.args.front.now (drop c.args.place c.args.params.now) c.args.body.now)
    (ap (λ (l : List Demand). c.args.demands.now ++ l)
    (instances-at c.args.part.now c.args.front.now c.args.body.now c.args.params.now c.args.place c.index-params-place.result c.as_slice-listed.result.now (omega arith) c.index-params-place.is (c.as_slice-listed.ensures.value ∙ (c.in_ok-spots.ensures ∙ ap (λ (q : Param). spots_of c.args.part.now q.over) (sym c.index-params-place.is)))))
    c.put_turns.ensures

pub put_instances-returns-in_ok-held : goal.put_instances-returns-in_ok-held
put_instances-returns-in_ok-held t c =
    on-ok-more c.push.result c.push.new.self (c.args.demands.now ++ c.in_ok-held.field-0 ∷ []) (c.args.demands.now ++ held_from c.args.part.now c.args.front.now (drop c.args.place c.args.params.now) c.args.body.now)
    (ap (λ (l : List Demand). c.args.demands.now ++ l) (ap (λ (d : Demand). d ∷ []) c.in_ok-held.ensures ∙ instances-over c.args.part.now c.args.front.now c.args.body.now c.args.params.now c.args.place (omega arith))) c.push.ensures.ok
