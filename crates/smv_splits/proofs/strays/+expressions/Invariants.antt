use Rattle.std.proofs.Common.{◌≡◌, map, drop}
use Rattle.smv_mentions.specs.Scopes.{first_of_places}
use Rattle.smv_splits.specs.Parts.{first_among, stray_in, signed_stray, member_stray}
use Rattle.smv_splits.proofs.strays.+expressions.Given as goal

abbrev pub invariant-strays_in-loop-x : goal.invariant-strays_in-loop-x
invariant-strays_in-loop-x l = first_of_places l.found (first_among (map (stray_in l.standing) (drop l.x-index l.exprs))) ≡ first_among (map (stray_in l.standing) l.exprs)

abbrev pub invariant-signed_strays-loop-x : goal.invariant-signed_strays-loop-x
invariant-signed_strays-loop-x l = first_of_places l.found (first_among (map (signed_stray l.standing) (drop l.x-index l.more))) ≡ first_among (map (signed_stray l.standing) l.more)

abbrev pub invariant-member_strays-loop-x : goal.invariant-member_strays-loop-x
invariant-member_strays-loop-x l = first_of_places l.found (first_among (map (member_stray l.standing) (drop l.x-index l.members))) ≡ first_among (map (member_stray l.standing) l.members)
