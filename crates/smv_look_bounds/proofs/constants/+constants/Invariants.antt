use Rattle.std.proofs.Common.{◌≡◌, drop}
use Rattle.std.specs.List.{list_all}
use Rattle.smv_look_bounds.specs.Constants.{is_constant}
use Rattle.smv_look_bounds.specs.Held.{member_constant, term_constant}
use Rattle.smv_look_bounds.proofs.constants.+constants.Given as goal

abbrev pub invariant-are_constant-loop-x : goal.invariant-are_constant-loop-x
invariant-are_constant-loop-x l = list_all is_constant l.parts ≡ list_all is_constant (drop l.x-index l.parts)

abbrev pub invariant-terms_constant-loop-x : goal.invariant-terms_constant-loop-x
invariant-terms_constant-loop-x l = list_all term_constant l.more ≡ list_all term_constant (drop l.x-index l.more)

abbrev pub invariant-members_constant-loop-x : goal.invariant-members_constant-loop-x
invariant-members_constant-loop-x l = list_all member_constant l.members ≡ list_all member_constant (drop l.x-index l.members)
