use Rattle.std.proofs.Common.{◌≡◌, map, drop}
use Rattle.law_designs.specs.FlatKinds.{kind_of}
use Rattle.smv_symmetric.specs.Plain.{joined_after, member_kind}
use Rattle.smv_symmetric.specs.Held.{held}
use Rattle.smv_symmetric.proofs.kinds.+kinds.Given as goal

abbrev pub invariant-members_kind-loop-x : goal.invariant-members_kind-loop-x
invariant-members_kind-loop-x l = joined_after (held l.kind) (map (member_kind l.flat_text (map kind_of l.vars)) (drop l.x-index l.more)) ≡ joined_after (held l.initial.kind) (map (member_kind l.flat_text (map kind_of l.vars)) l.more)
