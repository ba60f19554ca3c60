use Rattle.std.proofs.Common.{drop}
use Rattle.smv_outcome_lists.proofs.ListLaws.{Membering}
use Rattle.smv_outcome_lists.proofs.members.member_of.Given as goal

abbrev pub invariant-loop-place : goal.invariant-loop-place
invariant-loop-place g l = Membering g.S.Conditions.IsMade g.S.Conditions.holds g.S.Conditions.room l.fn.s l.s l.problem l.u (drop l.place l.vss) l.found
