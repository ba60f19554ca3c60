use Rattle.std.proofs.Common.{◌≡◌, ◌++◌, drop, map}
use Rattle.std.specs.List.{flat_map}
use Rattle.smv_look_bounds.specs.Doubts.{doubts}
use Rattle.smv_look_bounds.specs.Held.{given_of, implied_doubts, member_doubts, term_doubts}
use Rattle.smv_look_bounds.proofs.doubts.+expressions.Given as goal

abbrev pub invariant-push_each-loop-x : goal.invariant-push_each-loop-x
invariant-push_each-loop-x l =
    l.out.items ++ flat_map (doubts l.families l.vars (map given_of l.givens)) (drop l.x-index l.parts)
    ≡ l.initial.out.items ++ flat_map (doubts l.families l.vars (map given_of l.givens)) l.parts

abbrev pub invariant-push_implied-loop-x : goal.invariant-push_implied-loop-x
invariant-push_implied-loop-x l =
    l.out.items ++ implied_doubts l.families l.vars (map given_of l.inner.items) (drop l.x-index l.parts)
    ≡ l.initial.out.items ++ implied_doubts l.families l.vars (map given_of l.givens) l.parts

abbrev pub invariant-push_terms-loop-signed : goal.invariant-push_terms-loop-signed
invariant-push_terms-loop-signed l =
    l.out.items ++ flat_map (term_doubts l.families l.vars (map given_of l.givens)) (drop l.signed-index l.more)
    ≡ l.initial.out.items ++ flat_map (term_doubts l.families l.vars (map given_of l.givens)) l.more

abbrev pub invariant-push_members-loop-member : goal.invariant-push_members-loop-member
invariant-push_members-loop-member l =
    l.out.items ++ flat_map (member_doubts l.families l.vars (map given_of l.givens)) (drop l.member-index l.members)
    ≡ l.initial.out.items ++ flat_map (member_doubts l.families l.vars (map given_of l.givens)) l.members
