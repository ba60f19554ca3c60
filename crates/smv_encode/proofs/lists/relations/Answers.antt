use Rattle.smv_rings.specs.Lists.{lists_of}
use Rattle.smv_encode.proofs.Ordered.{declared_orders, declared_lists}
use Rattle.smv_encode.proofs.lists.relations.Goals as goal

pub relations_over-requires-clause-order : goal.relations_over-requires-clause-order
relations_over-requires-clause-order c = declared_orders c.args.problem.now c.in_ok-order.order.items c.as_slice.result.now c.as_slice.ensures.value c.in_ok-order.ensures

pub returns-clause-lists : goal.returns-clause-lists
returns-clause-lists c = declared_lists c.args.problem.now (lists_of c.relations_over.new.store c.in_ok-rel.rel) c.in_ok-order.order.items c.as_slice.result.now c.as_slice.ensures.value c.in_ok-order.ensures c.in_ok-rel.ensures.lists
