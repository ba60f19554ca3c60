use Rattle.std.proofs.Common.{◌≡◌, ◌++◌, drop, map}
use Rattle.std.specs.List.{flat_map}
use Rattle.smv_look_bounds.specs.Held.{given_of, member_values}
use Rattle.smv_look_bounds.proofs.parts.+sides.Given as goal

abbrev pub invariant-push_members-loop-member : goal.invariant-push_members-loop-member
invariant-push_members-loop-member l =
    l.out.items ++ flat_map (member_values l.families l.over l.vars (map given_of l.givens)) (drop l.member-index l.members)
    ≡ l.initial.out.items ++ flat_map (member_values l.families l.over l.vars (map given_of l.givens)) l.members
