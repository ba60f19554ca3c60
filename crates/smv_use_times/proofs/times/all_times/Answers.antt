use Rattle.std.proofs.Common.{map, ap, sym, subst, ◌∙◌, arith}
use Rattle.graph_search.specs.Walks.{lists}
use Rattle.graph_search.specs.Reverse.{IsGraph}
use Rattle.smv_use_times.specs.Uses.{held}
use Rattle.smv_use_times.specs.Times.{timed_by, timed_from}
use Rattle.smv_use_times.proofs.TimeLaws.{labelled_times, one_timed}
use Rattle.smv_use_times.proofs.times.all_times.Goals as goal

pub components-requires : goal.components-requires
components-requires c = subst IsGraph (sym (ap lists c.as_slice.ensures.value ∙ c.in_ok-graph.ensures)) c.requires

pub loop-place-preserved : goal.loop-place-preserved
loop-place-preserved c =
    let labels = c.in_ok-labels.labels.items in
    one_timed labels c.args.all.now c.loop-place.place c.index-all-place.result c.loop-place.times.items c.push.new.self.items c.in_ok-leaf_times.field-0 (timed_from labels 0 (map held c.args.all.now)) c.loop-place-test.true c.index-all-place.is
    (c.in_ok-leaf_times.ensures ∙ ap (λ ls. timed_by ls c.loop-place.place (held c.index-all-place.result)) c.as_slice-in-loop-place.ensures.value)
    c.in_ok-push.ensures.items c.loop-place.invariant

pub returns : goal.returns
returns c =
    labelled_times c.args.all.now (lists c.as_slice.result.now) c.in_ok-labels.labels.items c.loop-place.times.items c.loop-place.place (ap lists c.as_slice.ensures.value ∙ c.in_ok-graph.ensures) c.requires c.in_ok-labels.ensures
    (omega (arith, c.loop-place-test.false)) c.loop-place.invariant
