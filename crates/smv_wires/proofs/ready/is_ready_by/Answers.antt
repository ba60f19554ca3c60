use Rattle.std.proofs.Common.{map}
use Rattle.smv_spots.specs.Spots.{place_in}
use Rattle.smv_wires.proofs.Readiness.{ready_then, ready_else}
use Rattle.smv_wires.proofs.ready.is_ready_by.Goals as goal

pub returns-then-concerns : goal.returns-then-concerns
returns-then-concerns c n = ready_then c.args.tried.now c.args.element.now (map (place_in n) c.args.indexes.now) c.args.comb.now c.concerns.result c.may_read_for.result c.as_slice.result.now c.as_slice.ensures (c.concerns.ensures n) c.if-concerns.true c.may_read_for.ensures

pub returns-else-concerns : goal.returns-else-concerns
returns-else-concerns c n = ready_else c.args.tried.now c.args.element.now (map (place_in n) c.args.indexes.now) c.args.comb.now c.concerns.result (c.concerns.ensures n) c.if-concerns.false
