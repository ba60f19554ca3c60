use Rattle.std.proofs.Common.{◌+◌, length}
use Rattle.smv_loops.specs.Edges.{total}
use Rattle.smv_loops.specs.Held.{reading_of}
use Rattle.smv_loops.specs.Rows.{stands_for}
use Rattle.smv_loops.proofs.ClosingLaws.{added-more}
use Rattle.smv_loops.proofs.loops.add_links.Goals as goal

pub loop-x-preserved : goal.loop-x-preserved
loop-x-preserved c =
    let families = c.args.families.now in
    let rows = c.args.rows.now.rows.items in
    added-more families (stands_for families rows) (total families + length rows) reading_of c.args.held.now c.loop-x.x-index c.x-item.result c.args.all.now.items c.loop-x.all.items c.push.new.self.items c.in_ok-links.field-0 c.loop-x-test.true c.x-item.is c.loop-x.invariant
    c.in_ok-links.ensures c.in_ok-push.ensures.items
