use Rattle.law_problems.proofs.Orders.{is_cone, cone_in_order}
use Rattle.law_problems.proofs.cones.sorted_cones.Goals as goal

pub returns-clause-sorted : goal.returns-clause-sorted
returns-clause-sorted c w o entry params indexed found s there back = is_cone w indexed o entry params found s there back

pub returns-clause-in_order : goal.returns-clause-in_order
returns-clause-in_order c w o entry params indexed = cone_in_order w indexed o entry params
