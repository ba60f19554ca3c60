use Rattle.std.proofs.Common.{◌<◌, length, ◌∙◌, arith}
use Rattle.std.proofs.lemmas.List.{length-set}
use Rattle.bdd_store.specs.Diagram.{table, first_var}
use Rattle.bdd_ops.proofs.SupportLaws.{leads_on}
use Rattle.bdd_ops.proofs.questions.pick.Goals as goal

pub loop-rest-preserved : goal.loop-rest-preserved
loop-rest-preserved c =
    let d = c.args.store.now in
    let way = c.loop-rest.invariant in
    let next = c.toward_one-value in
    let lt : c.var.result < length c.loop-rest.bits.items = omega (arith, c.var.ensures.within, way.size) in
    record {
      live = next.ensures.live;
      some = λ never. next.ensures.some way.some never;
      size = length-set c.loop-rest.bits.items c.var.result next.result.0 ∙ way.size;
      leads = leads_on (table d c.args.f) (table d c.loop-rest.rest) (table d next.result.1) c.loop-rest.bits.items c.var.result (first_var d c.loop-rest.rest) (first_var d next.result.1) next.result.0
          c.var.ensures.var lt next.ensures.table way.leads next.ensures.first;
    }
