use Rattle.std.proofs.Common.{◌≡◌, map, drop}
use Rattle.smv_free_variables.specs.Placeless.{placeless, placeless_term, placeless_member}
use Rattle.smv_free_variables.proofs.equal.+equal.Given as goal

abbrev pub invariant-are_equal-loop-x : goal.invariant-are_equal-loop-x
invariant-are_equal-loop-x l = map placeless (drop l.x-index l.xs) ≡ map placeless l.others → map placeless l.xs ≡ map placeless l.ys

abbrev pub invariant-are_equal_terms-loop-x : goal.invariant-are_equal_terms-loop-x
invariant-are_equal_terms-loop-x l = map placeless_term (drop l.x-index l.xs) ≡ map placeless_term l.others → map placeless_term l.xs ≡ map placeless_term l.ys

abbrev pub invariant-are_equal_members-loop-x : goal.invariant-are_equal_members-loop-x
invariant-are_equal_members-loop-x l = map placeless_member (drop l.x-index l.xs) ≡ map placeless_member l.others → map placeless_member l.xs ≡ map placeless_member l.ys
