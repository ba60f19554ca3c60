use Rattle.std.proofs.Common.{map, length}
use Rattle.smv_first_fault.specs.Firsts.{least}
use Rattle.law_splits.specs.Chains.{shown}
use Rattle.smv_split_faults.specs.Waiting.{held}
use Rattle.smv_split_faults.proofs.WalkLaws.{Goes, size}
use Rattle.smv_split_faults.proofs.mismatches.first_of_name.Given as goal

abbrev pub invariant-loop-next : goal.invariant-loop-next
invariant-loop-next l =
    Goes l.tables.design.now l.walk.types.items (map held l.walk.waiting.items) l.walk.found (least (shown l.tables.design.now (length l.tables.design.now.splits) l.name l.fn.types.items))

abbrev pub decreases-loop-next : goal.decreases-loop-next
decreases-loop-next l = size l.tables.design.now (map held l.walk.waiting.items)
