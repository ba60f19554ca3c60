use Rattle.std.proofs.Common.{◌≡◌, drop, ◌||◌}
use Rattle.std.specs.List.{list_any}
use Rattle.smv_free_variables.specs.Reading.{occurs, occurs_signed, occurs_member}
use Rattle.smv_free_variables.proofs.reading.+reading.Given as goal

abbrev pub invariant-is_read_by-loop-member : goal.invariant-is_read_by-loop-member
invariant-is_read_by-loop-member l = (l.found || list_any (occurs_member l.var) (drop l.member-index l.members)) ≡ list_any (occurs_member l.var) l.members

abbrev pub invariant-is_read_in-loop-part : goal.invariant-is_read_in-loop-part
invariant-is_read_in-loop-part l = (l.found || list_any (occurs l.var) (drop l.part-index l.parts)) ≡ list_any (occurs l.var) l.parts

abbrev pub invariant-is_read_signed-loop-signed : goal.invariant-is_read_signed-loop-signed
invariant-is_read_signed-loop-signed l = (l.found || list_any (occurs_signed l.var) (drop l.signed-index l.more)) ≡ list_any (occurs_signed l.var) l.more
