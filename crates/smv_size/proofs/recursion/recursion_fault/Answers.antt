use Rattle.std.proofs.Common.{map, ap, ◌∙◌}
use Rattle.smv_mentions.specs.Said.{told}
use Rattle.smv_size.specs.Recursion.{recursion_at}
use Rattle.smv_size.proofs.RecursionLaws.{least_is_first}
use Rattle.smv_size.proofs.recursion.recursion_fault.Goals as goal

pub returns : goal.returns
returns c = c.fault_at.ensures ∙ ap recursion_at c.in_ok-at.ensures ∙ least_is_first (map told c.args.pieces.now) c.args.text.now c.requires
