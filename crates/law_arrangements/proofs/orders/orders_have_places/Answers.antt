use Rattle.law_arrangements.proofs.OrderLaws.{order_long, order_has, places_own, declared_order}
use Rattle.law_arrangements.proofs.orders.orders_have_places.Goals as goal

pub returns-clause-long : goal.returns-clause-long
returns-clause-long c bits order is = order_long bits order is

pub returns-clause-each : goal.returns-clause-each
returns-clause-each c bits order is = order_has bits order is

pub returns-clause-own : goal.returns-clause-own
returns-clause-own c bits order is = places_own bits order is

pub returns-clause-declared : goal.returns-clause-declared
returns-clause-declared c bits = declared_order bits
