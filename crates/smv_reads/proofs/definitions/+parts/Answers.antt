use Rattle.std.proofs.Common.{List, ap, sym, ◌∙◌}
use Rattle.smv_elements.specs.Elements.{put_all}
use Rattle.smv_spots.specs.declared.spots.Spot.{Spot}
use Rattle.smv_reads.specs.Views.{places, bind_spot}
use Rattle.smv_reads.specs.Reading.{read_by}
use Rattle.smv_reads.proofs.Joins.{turn-kept, item-kept, turns-over}
use Rattle.smv_reads.proofs.PartLaws.{over-spots}
use Rattle.smv_reads.proofs.definitions.+parts.Goals as goal

pub read_parts-loop-part-preserved : goal.read_parts-loop-part-preserved
read_parts-loop-part-preserved t c =
    (item-kept (read_by c.args.view.now c.args.own.now c.args.bindings.now) c.args.parts.now c.loop-part.part-index c.part-item.result c.loop-part.found _ _ c.loop-part-test.true c.part-item.is c.in_ok-read_part.ensures.found c.loop-part.invariant.0, c.in_ok-read_part.ensures.walked)

pub read_parts-returns-clause-found : goal.read_parts-returns-clause-found
read_parts-returns-clause-found t c = turns-over (read_by c.args.view.now c.args.own.now c.args.bindings.now) c.args.parts.now c.loop-part.part-index c.loop-part.found _ c.loop-part-test.false c.loop-part.invariant.0

pub read_turns-loop-p-init : goal.read_turns-loop-p-init
read_turns-loop-p-init t c = (
  ap (put_all c.args.found.now)
      (sym (over-spots c.args.view.now c.args.own.now c.args.bindings.now c.args.var c.args.over c.args.body.now c.as_slice-p-items.result.now (ap (places c.args.view.now) c.as_slice-p-items.ensures.value ∙ c.in_ok-spots.ensures))),
  c.requires.walked,
)

pub read_turns-loop-p-preserved : goal.read_turns-loop-p-preserved
read_turns-loop-p-preserved t c = (
  turn-kept (λ (p : Spot). read_by c.args.view.now c.args.own.now (bind_spot c.args.bindings.now c.args.var p) c.args.body.now) c.as_slice-p-items.result.now c.loop-p.p-index _ c.loop-p.found _ _ c.loop-p-test.true
      (c.in_ok-read_turn.ensures.found ∙ ap (λ (b : List Spot). put_all c.loop-p.found (read_by c.args.view.now c.args.own.now b c.args.body.now)) (c.as_slice-inside.ensures.value ∙ c.in_ok-inner.ensures)) c.loop-p.invariant.0,
  c.in_ok-read_turn.ensures.walked,
)

pub read_turns-returns-clause-found : goal.read_turns-returns-clause-found
read_turns-returns-clause-found t c =
    turns-over (λ (p : Spot). read_by c.args.view.now c.args.own.now (bind_spot c.args.bindings.now c.args.var p) c.args.body.now) c.as_slice-p-items.result.now c.loop-p.p-index c.loop-p.found _ c.loop-p-test.false c.loop-p.invariant.0
