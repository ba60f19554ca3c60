use Rattle.smv_names.proofs.Joining.{joined}
use Rattle.smv_names.proofs.name_fault.Goals as goal

pub returns : goal.returns
returns c = joined c.first_of_both.ensures c.any_order.ensures c.args.text.now c.in_ok-scope.scope c.in_ok-recursion.recursion c.earlier.result c.in_ok-scope.ensures c.in_ok-recursion.ensures c.earlier.ensures
