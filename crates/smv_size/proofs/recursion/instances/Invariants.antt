use Rattle.std.proofs.Common.{◌≡◌, ◌++◌, map, drop}
use Rattle.std.specs.List.{filter_map}
use Rattle.name_index.specs.Position.{position}
use Rattle.smv_mentions.specs.Said.{said}
use Rattle.smv_mentions.specs.NameFaults.{used_in}
use Rattle.smv_size.proofs.recursion.instances.Given as goal

abbrev pub invariant-loop-mention : goal.invariant-loop-mention
invariant-loop-mention l = l.places.items ++ filter_map (position l.names) (used_in (map said (drop l.mention-index l.mentions))) ≡ filter_map (position l.names) (used_in (map said l.mentions))
