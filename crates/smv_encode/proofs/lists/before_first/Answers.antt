use Rattle.std.proofs.Common.{map}
use Rattle.law_arrangements.specs.ArrangedLists.{met_first}
use Rattle.smv_encode.proofs.Adds.{demands_shown}
use Rattle.smv_encode.proofs.Whole.{before_are, no_refs, one_part}
use Rattle.smv_encode.proofs.lists.before_first.Goals as goal

pub add_all-requires-clause-out : goal.add_all-requires-clause-out
add_all-requires-clause-out c = no_refs c.args.store.now c.new-refs.result.items c.new-refs.ensures.items

pub returns-clause-list : goal.returns-clause-list
returns-clause-list c = λ d is well o are.
    one_part c.args.store.now c.add_all.new.store c.new-refs.result.items c.add_all.new.out.items (map (met_first d o) d.problem.before) c.new-refs.ensures.items
    (c.in_ok-add_all.ensures.adds d is well o are d.problem.before (demands_shown d d.problem.before c.args.problem.now.before c.as_slice-demands.result.now c.as_slice-demands.ensures (before_are c.args.problem.now d is well)))
