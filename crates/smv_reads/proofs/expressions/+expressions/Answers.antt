use Rattle.std.proofs.Common.{List, ap, sym, ◌∙◌}
use Rattle.smv_elements.specs.Elements.{put_all}
use Rattle.smv_spots.specs.declared.spots.Spot.{Spot}
use Rattle.smv_reads.specs.Views.{places, bind_spot}
use Rattle.smv_reads.specs.Reading.{read_in, read_in_term, read_in_member}
use Rattle.smv_reads.proofs.Joins.{turn-kept, item-kept, turns-over, on-ok-then}
use Rattle.smv_reads.proofs.ExpressionLaws.{over-spots}
use Rattle.smv_reads.proofs.WalkLaws.{known-walked, more-walked}
use Rattle.smv_reads.proofs.expressions.+expressions.Goals as goal

pub walk_each-loop-x-preserved : goal.walk_each-loop-x-preserved
walk_each-loop-x-preserved t c =
    (item-kept (read_in c.args.view.now c.args.bindings.now) c.args.parts.now c.loop-x.x-index c.x-item.result c.loop-x.found _ _ c.loop-x-test.true c.x-item.is c.in_ok-walk_expression.ensures.found c.loop-x.invariant.0, c.in_ok-walk_expression.ensures.walked)

pub walk_each-returns-clause-found : goal.walk_each-returns-clause-found
walk_each-returns-clause-found t c = turns-over (read_in c.args.view.now c.args.bindings.now) c.args.parts.now c.loop-x.x-index c.loop-x.found _ c.loop-x-test.false c.loop-x.invariant.0

pub walk_members-loop-x-preserved : goal.walk_members-loop-x-preserved
walk_members-loop-x-preserved t c =
    (item-kept (read_in_member c.args.view.now c.args.bindings.now) c.args.members.now c.loop-x.x-index c.x-item.result c.loop-x.found _ _ c.loop-x-test.true c.x-item.is c.in_ok-walk_member.ensures.found c.loop-x.invariant.0, c.in_ok-walk_member.ensures.walked)

pub walk_members-returns-clause-found : goal.walk_members-returns-clause-found
walk_members-returns-clause-found t c = turns-over (read_in_member c.args.view.now c.args.bindings.now) c.args.members.now c.loop-x.x-index c.loop-x.found _ c.loop-x-test.false c.loop-x.invariant.0

pub walk_over-loop-p-init : goal.walk_over-loop-p-init
walk_over-loop-p-init t c = (
  c.turns-taken.ensures c.args.view.now c.args.found.now
      ∙ ap (put_all c.args.found.now) (sym (over-spots c.args.view.now c.args.bindings.now c.args.var c.args.over c.args.body.now c.as_slice.result.now (ap (places c.args.view.now) c.as_slice.ensures.value ∙ c.in_ok-spots.ensures))),
  c.requires.walked,
)

pub walk_over-loop-p-preserved : goal.walk_over-loop-p-preserved
walk_over-loop-p-preserved t c = (
  turn-kept (λ (p : Spot). read_in c.args.view.now (bind_spot c.args.bindings.now c.args.var p) c.args.body.now) c.turns-taken.result.now c.loop-p.p-index _ c.loop-p.found _ _ c.loop-p-test.true
      (c.in_ok-walk_expression.ensures.found ∙ ap (λ (b : List Spot). put_all c.loop-p.found (read_in c.args.view.now b c.args.body.now)) (c.as_slice-inside.ensures.value ∙ c.in_ok-inner.ensures)) c.loop-p.invariant.0,
  c.in_ok-walk_expression.ensures.walked,
)

pub walk_over-returns-clause-found : goal.walk_over-returns-clause-found
walk_over-returns-clause-found t c =
    turns-over (λ (p : Spot). read_in c.args.view.now (bind_spot c.args.bindings.now c.args.var p) c.args.body.now) c.turns-taken.result.now c.loop-p.p-index c.loop-p.found _ c.loop-p-test.false c.loop-p.invariant.0

pub walk_signed-loop-x-preserved : goal.walk_signed-loop-x-preserved
walk_signed-loop-x-preserved t c =
    (item-kept (read_in_term c.args.view.now c.args.bindings.now) c.args.more.now c.loop-x.x-index c.x-item.result c.loop-x.found _ _ c.loop-x-test.true c.x-item.is c.in_ok-walk_expression.ensures.found c.loop-x.invariant.0, c.in_ok-walk_expression.ensures.walked)

pub walk_signed-returns-clause-found : goal.walk_signed-returns-clause-found
walk_signed-returns-clause-found t c = turns-over (read_in_term c.args.view.now c.args.bindings.now) c.args.more.now c.loop-x.x-index c.loop-x.found _ c.loop-x-test.false c.loop-x.invariant.0

pub walk_expression-returns-in-Some-clause-found : goal.walk_expression-returns-in-Some-clause-found
walk_expression-returns-in-Some-clause-found t c = known-walked c.args.view.now c.args.found.now c.args.walked.now.entries.items c.args.x.now c.args.bindings.now _ c.requires.walked c.in-Some.ensures

pub walk_expression-returns-in_ok-walk_parts-in-None-clause-walked : goal.walk_expression-returns-in_ok-walk_parts-in-None-clause-walked
walk_expression-returns-in_ok-walk_parts-in-None-clause-walked t c =
    on-ok-then c.remember.result c.remember.ensures
    (λ e. more-walked c.args.view.now c.args.found.now c.walk_parts-in-None.new.found c.walk_parts-in-None.new.walked.entries.items _ _ e c.in_ok-walk_parts-in-None.ensures.found c.in_ok-walk_parts-in-None.ensures.walked)
