use Rattle.std.proofs.Common.{◌≡◌, ◌++◌, map, drop}
use Rattle.smv_problem.specs.Written.{orders_of}
use Rattle.smv_obligations.proofs.shared.orders.Given as goal

abbrev pub invariant-loop-info : goal.invariant-loop-info
invariant-loop-info l = l.ordered ++ map (λ info. info.ordered) (drop l.info-index l.sets) ≡ orders_of l.sets
