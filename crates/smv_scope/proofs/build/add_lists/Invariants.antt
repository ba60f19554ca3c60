use Rattle.std.proofs.Common.{◌≡◌, ◌++◌, map, drop}
use Rattle.std.specs.List.{flat_map}
use Rattle.smv_mentions.specs.Said.{said}
use Rattle.smv_scope.specs.Held.{lists_of}
use Rattle.smv_scope.proofs.build.add_lists.Given as goal

abbrev pub invariant-loop-mention : goal.invariant-loop-mention
invariant-loop-mention l = map (λ words. words.now) l.lists.items ++ flat_map (λ mention. lists_of (said mention)) (drop l.mention-index l.mentions) ≡ map (λ words. words.now) l.initial.lists.items ++ flat_map (λ mention. lists_of (said mention)) l.mentions
