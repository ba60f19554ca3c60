use Rattle.std.proofs.Common.{◌≡◌, drop}
use Rattle.std.specs.List.{flat_map}
use Rattle.smv_elements.specs.Elements.{put_all}
use Rattle.smv_reads.specs.Views.{bind_spot}
use Rattle.smv_reads.specs.Reading.{read_in, read_in_term, read_in_member, read_over, AreWalked}
use Rattle.smv_reads.proofs.expressions.+expressions.Given as goal

abbrev pub invariant-walk_each-loop-x : goal.invariant-walk_each-loop-x
invariant-walk_each-loop-x l =
    (put_all l.found (flat_map (read_in l.view l.bindings) (drop l.x-index l.parts)) ≡ put_all l.initial.found (flat_map (read_in l.view l.bindings) l.parts))
    × AreWalked l.view l.found l.walked.entries.items

abbrev pub invariant-walk_signed-loop-x : goal.invariant-walk_signed-loop-x
invariant-walk_signed-loop-x l =
    (put_all l.found (flat_map (read_in_term l.view l.bindings) (drop l.x-index l.more)) ≡ put_all l.initial.found (flat_map (read_in_term l.view l.bindings) l.more))
    × AreWalked l.view l.found l.walked.entries.items

abbrev pub invariant-walk_members-loop-x : goal.invariant-walk_members-loop-x
invariant-walk_members-loop-x l =
    (put_all l.found (flat_map (read_in_member l.view l.bindings) (drop l.x-index l.members)) ≡ put_all l.initial.found (flat_map (read_in_member l.view l.bindings) l.members))
    × AreWalked l.view l.found l.walked.entries.items

abbrev pub invariant-walk_over-loop-p : goal.invariant-walk_over-loop-p
invariant-walk_over-loop-p l =
    (put_all l.found (flat_map (λ p. read_in l.view (bind_spot l.bindings l.var p) l.body) (drop l.p-index l.taken)) ≡ put_all l.initial.found (read_over l.view l.bindings l.var l.fn.over l.body))
    × AreWalked l.view l.found l.walked.entries.items
