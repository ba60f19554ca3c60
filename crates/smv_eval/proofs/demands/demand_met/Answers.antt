use Rattle.std.specs.Option.{option_copied}
use Rattle.law_obligations.specs.Obligations.{is_met}
use Rattle.smv_walks.specs.Demands.{IsDemand}
use Rattle.smv_eval.proofs.HeldLaws.{plainly_said}
use Rattle.smv_eval.proofs.demands.demand_met.Goals as goal

pub returns : goal.returns
returns c p before now read d of same =
    plainly_said IsDemand c.args.problem.now (option_copied c.args.old) c.args.cells.now c.args.demand.now (λ p before now d. is_met p before now d) _ _ c.in_ok-met.met c.in_ok-met.ensures.is p before now read d of same
