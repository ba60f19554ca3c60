use Rattle.std.proofs.Common.{◌≡◌, ◌++◌, map, drop}
use Rattle.std.specs.List.{flat_map}
use Rattle.smv_mentions.specs.Mentions.{in_item}
use Rattle.smv_mentions.specs.Said.{said, words_at}
use Rattle.smv_mentions.proofs.items.+items.Given as goal

abbrev pub invariant-items-loop-x : goal.invariant-items-loop-x
invariant-items-loop-x l = map said l.out.items ++ flat_map (in_item (words_at l.vars)) (drop l.x-index l.parts) ≡ map said l.initial.out.items ++ flat_map (in_item (words_at l.vars)) l.parts
