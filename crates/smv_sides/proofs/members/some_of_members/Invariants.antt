use Rattle.std.proofs.Common.{drop}
use Rattle.smv_sides.proofs.MemberLaws.{Gathered}
use Rattle.smv_sides.proofs.members.some_of_members.Given as goal

abbrev pub invariant-loop-place : goal.invariant-loop-place
invariant-loop-place g l = Gathered g.S.Conditions.IsMade g.S.Conditions.holds g.S.Conditions.room l.fn.s l.s l.problem l.cells l.known.entries.items l.target l.sense l.b (drop l.place l.members) l.some
