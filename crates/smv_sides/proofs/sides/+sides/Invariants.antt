use Rattle.std.proofs.Common.{drop}
use Rattle.smv_sides.proofs.MemberLaws.{Listing}
use Rattle.smv_sides.proofs.sides.+sides.Given as goal

abbrev pub invariant-sure_of_members-loop-member : goal.invariant-sure_of_members-loop-member
invariant-sure_of_members-loop-member g l =
    Listing g.S.Conditions.IsMade g.S.Conditions.holds g.S.Conditions.room l.fn.s l.s l.problem l.cells l.known.entries.items l.target l.b (drop l.member-index l.members) l.members l.some
