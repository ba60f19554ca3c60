use Rattle.std.proofs.Common.{◌≡◌, drop}
use Rattle.std.specs.List.{list_any}
use Rattle.smv_may_read.specs.Mentions.{mentions, mentions_signed, mentions_member}
use Rattle.smv_may_read.proofs.expressions.+mentions.Given as goal

abbrev pub invariant-some_may_read-loop-part : goal.invariant-some_may_read-loop-part
invariant-some_may_read-loop-part l = list_any (mentions l.elements) (drop l.part-index l.parts) ≡ list_any (mentions l.elements) l.parts

abbrev pub invariant-some_term_may_read-loop-signed : goal.invariant-some_term_may_read-loop-signed
invariant-some_term_may_read-loop-signed l = list_any (mentions_signed l.elements) (drop l.signed-index l.more) ≡ list_any (mentions_signed l.elements) l.more

abbrev pub invariant-some_member_may_read-loop-member : goal.invariant-some_member_may_read-loop-member
invariant-some_member_may_read-loop-member l = list_any (mentions_member l.elements) (drop l.member-index l.members) ≡ list_any (mentions_member l.elements) l.members
