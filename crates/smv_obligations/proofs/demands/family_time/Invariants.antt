use Rattle.std.proofs.Common.{◌≡◌, drop}
use Rattle.law_obligations.specs.Problems as problems
use Rattle.smv_obligations.proofs.demands.family_time.Given as goal

abbrev pub invariant-loop-place : goal.invariant-loop-place
invariant-loop-place l = problems.family_time (drop l.place l.picks) (drop l.place l.times) l.family ≡ problems.family_time l.picks l.times l.family
