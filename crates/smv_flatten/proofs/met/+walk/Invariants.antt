use Rattle.std.proofs.Common.{◌≡◌, ◌+◌, ◌*◌, ◌++◌, map, drop}
use Rattle.std.specs.List.{flat_map}
use Rattle.smv_flatten_families.specs.Held.{path_of}
use Rattle.smv_flatten.specs.Leaves.{leaf_of}
use Rattle.smv_flatten.specs.Met.{entries_met, said_in}
use Rattle.smv_flatten.proofs.met.+walk.Given as goal

abbrev pub decreases-walk : goal.decreases-walk
decreases-walk l = 3 * l.left

abbrev pub decreases-meet_all : goal.decreases-meet_all
decreases-meet_all l = 3 * l.left + 2

abbrev pub decreases-meet : goal.decreases-meet
decreases-meet l = 3 * l.left + 1

abbrev pub invariant-meet_all-loop-leaf : goal.invariant-meet_all-loop-leaf
invariant-meet_all-loop-leaf l =
    flat_map (entries_met l.numbers.text.now) l.out.items ++ flat_map (said_in l.numbers.text.now l.left (path_of l.path)) (map leaf_of (drop l.leaf-index l.leaves))
    ≡ flat_map (entries_met l.numbers.text.now) l.initial.out.items ++ flat_map (said_in l.numbers.text.now l.left (path_of l.path)) (map leaf_of l.leaves)
