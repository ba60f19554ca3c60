use Rattle.std.proofs.Common.{List, ap, ◌∙◌}
use Rattle.std.specs.List.{flat_map}
use Rattle.smv_core.specs.declared.flat.Guard.{Guard}
use Rattle.smv_elements.specs.Elements.{put_all}
use Rattle.smv_reads.specs.Reading.{read_in}
use Rattle.smv_reads.proofs.Joins.{item-kept, turns-over}
use Rattle.smv_cone.proofs.begin.read_guards.Goals as goal

pub loop-guard-preserved : goal.loop-guard-preserved
loop-guard-preserved c =
    item-kept (λ (g : Guard). read_in c.args.part.now.view c.args.part.now.params.now g.expr) c.as_slice-guard-items.result.now c.loop-guard.guard-index c.guard-item.result c.loop-guard.found _ _ c.loop-guard-test.true c.guard-item.is c.in_ok-read_expression.ensures c.loop-guard.invariant

pub returns : goal.returns
returns c =
    turns-over (λ (g : Guard). read_in c.args.part.now.view c.args.part.now.params.now g.expr) c.as_slice-guard-items.result.now c.loop-guard.guard-index c.loop-guard.found _ c.loop-guard-test.false c.loop-guard.invariant
    ∙ ap (λ (gs : List Guard). put_all c.args.found.now (flat_map (λ g. read_in c.args.part.now.view c.args.part.now.params.now g.expr) gs)) c.as_slice-guard-items.ensures
