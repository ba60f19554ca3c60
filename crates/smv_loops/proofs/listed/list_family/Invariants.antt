use Rattle.std.proofs.Common.{◌≡◌, ◌++◌, List, ℕ, Option, map, take}
use Rattle.smv_loops.specs.Order.{listed, lists_of}
use Rattle.smv_loops.proofs.listed.list_family.Given as goal

abbrev pub invariant-loop-list : goal.invariant-loop-list
invariant-loop-list l =
    l.out.items ≡ l.initial.out.items ++ map (listed l.families l.ranks) (map (λ (is : List (Option ℕ)). record { family = l.family; indexes = is }) (lists_of (take l.list-index l.list-items)))
