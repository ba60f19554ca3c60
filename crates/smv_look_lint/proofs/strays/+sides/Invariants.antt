use Rattle.std.proofs.Common.{◌≡◌, ◌++◌, drop}
use Rattle.std.specs.List.{flat_map}
use Rattle.smv_look_lint.specs.Held.{member_strays}
use Rattle.smv_look_lint.proofs.strays.+sides.Given as goal

abbrev pub invariant-push_members-loop-member : goal.invariant-push_members-loop-member
invariant-push_members-loop-member l = l.out.items ++ flat_map (member_strays l.family l.over) (drop l.member-index l.members) ≡ l.initial.out.items ++ flat_map (member_strays l.family l.over) l.members
