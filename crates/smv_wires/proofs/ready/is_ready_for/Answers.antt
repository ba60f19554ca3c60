use Rattle.std.proofs.Common.{map}
use Rattle.smv_spots.specs.Spots.{place_in}
use Rattle.smv_wires.proofs.Readiness.{ready_defined}
use Rattle.smv_wires.proofs.ready.is_ready_for.Goals as goal

pub returns-else-not-is_same : goal.returns-else-not-is_same
returns-else-not-is_same c n = ready_defined c.args.tried.now c.args.element.now c.in-Defined.own (map (place_in n) c.args.indexes.now) c.in-Defined.init c.in-Defined.next c.in-Defined.comb c.args.demand.now c.is_same.result c.is_ready_by.result c.in-Defined.is c.is_same.ensures c.if-not-is_same.false (c.is_ready_by.ensures n)
