use Rattle.std.proofs.Common.{List, [], ◌∷◌, ◌++◌, ◌+◌, drop, ap, sym, ◌∙◌, arith}
use Rattle.std.specs.List.{flat_map}
use Rattle.smv_elements.specs.Elements.{put_all}
use Rattle.smv_spots.specs.declared.spots.Spot.{Spot}
use Rattle.smv_core.specs.declared.flat.Param.{Param}
use Rattle.law_obligations.specs.Places.{named_in}
use Rattle.smv_reads.specs.Views.{world_of, places}
use Rattle.smv_reads.specs.Reading.{read_in}
use Rattle.smv_reads.proofs.Joins.{turn-kept, turns-over, on-ok-more}
use Rattle.smv_cone.proofs.InstanceLaws.{instances-at, instances-over}
use Rattle.smv_cone.specs.Begins.{read_instances}
use Rattle.smv_cone.proofs.begin.+instances.Goals as goal

pub read_turns-loop-p-preserved : goal.read_turns-loop-p-preserved
read_turns-loop-p-preserved t c =
    turn-kept (λ (p : Spot). read_instances c.args.view.now (c.args.front.now ++ p ∷ []) (drop c.args.place c.args.params.now) c.args.body.now) c.args.spots.now c.loop-p.p-index _ c.loop-p.found _ _ c.loop-p-test.true
    (c.in_ok-read_instances.ensures ∙ ap (λ (b : List Spot). put_all c.loop-p.found (read_instances c.args.view.now b (drop c.args.place c.args.params.now) c.args.body.now)) (c.as_slice-listed.ensures.value ∙ c.in_ok-begun.ensures)) c.loop-p.invariant

pub read_turns-returns : goal.read_turns-returns
read_turns-returns t c =
    turns-over (λ (p : Spot). read_instances c.args.view.now (c.args.front.now ++ p ∷ []) (drop c.args.place c.args.params.now) c.args.body.now) c.args.spots.now c.loop-p.p-index c.loop-p.found _ c.loop-p-test.false c.loop-p.invariant

pub read_instances-returns-in_ok-spots : goal.read_instances-returns-in_ok-spots
read_instances-returns-in_ok-spots t c =
    on-ok-more c.read_turns.result c.read_turns.new.found
    (put_all c.args.found.now (flat_map (λ (p : Spot). read_instances c.args.view.now (c.args.front.now ++ p ∷ []) (drop (c.args.place + 1) c.args.params.now) c.args.body.now) c.as_slice-listed.result.now))
    (put_all c.args.found.now (read_instances c.args.view.now c.args.front.now (drop c.args.place c.args.params.now) c.args.body.now))
    (ap (put_all c.args.found.now)
    (instances-at c.args.view.now c.args.front.now c.args.body.now c.args.params.now c.args.place c.index-params-place.result c.as_slice-listed.result.now (omega arith) c.index-params-place.is (ap (places c.args.view.now) c.as_slice-listed.ensures.value ∙ (c.in_ok-spots.ensures ∙ ap (λ (q : Param). named_in (world_of c.args.view.now) q.over) (sym c.index-params-place.is)))))
    c.read_turns.ensures

pub read_instances-returns-else-place-params : goal.read_instances-returns-else-place-params
read_instances-returns-else-place-params t c =
    on-ok-more c.read_expression.result c.read_expression.new.found (put_all c.args.found.now (read_in c.args.view.now c.args.front.now c.args.body.now)) (put_all c.args.found.now (read_instances c.args.view.now c.args.front.now (drop c.args.place c.args.params.now) c.args.body.now))
    (ap (put_all c.args.found.now) (instances-over c.args.view.now c.args.front.now c.args.body.now c.args.params.now c.args.place (omega arith))) c.read_expression.ensures
