use Rattle.smv_encode.proofs.Adds.{demands_shown}
use Rattle.smv_encode.proofs.Whole.{now_are}
use Rattle.smv_wires.proofs.met.own_met.Goals as goal

pub returns-clause-means : goal.returns-clause-means
returns-clause-means c = λ d is well x hx kept state has read a.
    c.in_ok-r.ensures.means d is well x hx d.problem.now (demands_shown d d.problem.now c.args.problem.now.now c.as_slice-demands.result.now c.as_slice-demands.ensures (now_are c.args.problem.now d is well)) kept state has read a
