use Rattle.std.proofs.Common.{arith}
use Rattle.smv_check.proofs.Fits.{too_many}
use Rattle.smv_check.proofs.Told.{failed_is, met_is}
use Rattle.smv_check.proofs.answers.at_end.Goals as goal

pub returns-then-progress-sets : goal.returns-then-progress-sets
returns-then-progress-sets c = λ cases passed. too_many cases c.args.sets.now c.args.progress passed (omega (arith, c.if-progress-sets.true))

pub returns-in-Some : goal.returns-in-Some
returns-in-Some c = λ cases passed. failed_is cases c.args.sets.now c.args.progress c.in-Some.number passed (omega (arith, c.if-progress-sets.false)) c.in-Some.is

pub returns-in-None : goal.returns-in-None
returns-in-None c = λ cases passed. met_is cases c.args.sets.now c.args.progress passed (omega (arith, c.if-progress-sets.false)) c.in-None.is
