use Rattle.std.proofs.Common.{◌≡◌, ◌++◌, map, drop}
use Rattle.std.specs.List.{flat_map}
use Rattle.smv_core.specs.Types.{names_of}
use Rattle.smv_mentions.specs.Said.{said}
use Rattle.law_designs.specs.Flattening.{enum_of}
use Rattle.smv_flatten_families.proofs.enums.all_lists.Given as goal

abbrev pub invariant-loop-piece : goal.invariant-loop-piece
invariant-loop-piece l = map (λ words. names_of words.now) l.lists.items ++ flat_map (λ piece. flat_map (λ mention. enum_of (said mention)) piece.mentions.items) (drop l.piece-index l.pieces) ≡ flat_map (λ piece. flat_map (λ mention. enum_of (said mention)) piece.mentions.items) l.pieces
