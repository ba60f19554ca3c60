use Rattle.law_problems.proofs.GapOrders.{orders_known}
use Rattle.law_problems.proofs.written_values.orders_are_known.Goals as goal

pub returns : goal.returns
returns c = λ w set info there ordered p q h k. orders_known w set info there ordered p q h k
