use Rattle.std.proofs.Common.{drop}
use Rattle.smv_conditions.proofs.ChainLaws.{Chaining}
use Rattle.smv_conditions.proofs.chances.chain_before.Given as goal

abbrev pub invariant-loop-place : goal.invariant-loop-place
invariant-loop-place g l = Chaining g.S.Conditions.IsMade g.S.Conditions.holds g.S.Conditions.room l.fn.s l.s l.how (drop l.place l.before) l.fn.last l.sum
