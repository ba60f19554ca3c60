use Rattle.std.proofs.Common.{◌≡◌, ◌++◌, map, drop}
use Rattle.std.specs.List.{flat_map}
use Rattle.smv_core.specs.Types.{names_of}
use Rattle.smv_mentions.specs.Said.{said}
use Rattle.law_designs.specs.Flattening.{enum_of}
use Rattle.smv_flatten_families.proofs.enums.add_lists.Given as goal

abbrev pub invariant-loop-mention : goal.invariant-loop-mention
invariant-loop-mention l = map (λ words. names_of words.now) l.lists.items ++ flat_map (λ mention. enum_of (said mention)) (drop l.mention-index l.mentions) ≡ map (λ words. names_of words.now) l.initial.lists.items ++ flat_map (λ mention. enum_of (said mention)) l.mentions
