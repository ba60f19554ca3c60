use Rattle.law_arrangements.proofs.OrderLaws.{order_arranges}
use Rattle.law_arrangements.proofs.orders.orders_are_arrangements.Goals as goal

pub returns : goal.returns
returns c posed order is = order_arranges posed order is
