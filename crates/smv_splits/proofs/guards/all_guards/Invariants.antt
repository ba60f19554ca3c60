use Rattle.std.proofs.Common.{◌≡◌, ◌++◌, map, drop}
use Rattle.std.specs.List.{flat_map}
use Rattle.smv_splits.specs.Links.{link_held, guards_at}
use Rattle.smv_splits.proofs.guards.all_guards.Given as goal

abbrev pub invariant-loop-link : goal.invariant-loop-link
invariant-loop-link l = l.guards.items ++ flat_map (guards_at l.count) (map link_held (drop l.link-index l.links)) ≡ flat_map (guards_at l.count) (map link_held l.links)
