use Rattle.std.proofs.Common.{◌≡◌, drop}
use Rattle.std.specs.List.{list_any}
use Rattle.smv_may_read.specs.Mentions.{mentions_inside}
use Rattle.smv_may_read.proofs.parts.+inside.Given as goal

abbrev pub invariant-some_reads_inside-loop-part : goal.invariant-some_reads_inside-loop-part
invariant-some_reads_inside-loop-part l = list_any (mentions_inside l.elements l.own l.around) (drop l.part-index l.parts) ≡ list_any (mentions_inside l.elements l.own l.around) l.parts
