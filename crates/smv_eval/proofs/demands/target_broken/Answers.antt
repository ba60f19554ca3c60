use Rattle.std.specs.Option.{option_copied}
use Rattle.law_obligations.specs.Obligations.{is_broken}
use Rattle.smv_walks.specs.Demands.{IsTargetOf}
use Rattle.smv_eval.proofs.HeldLaws.{plainly_said}
use Rattle.smv_eval.proofs.demands.target_broken.Goals as goal

pub returns : goal.returns
returns c p before now read d t same =
    plainly_said IsTargetOf c.args.problem.now (option_copied c.args.old) c.args.cells.now c.args.target.now (λ p before now d. is_broken p before now d) _ _ c.in_ok-broken.broken c.in_ok-broken.ensures.is p before now read d t same
