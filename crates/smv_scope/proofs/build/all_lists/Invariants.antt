use Rattle.std.proofs.Common.{◌≡◌, ◌++◌, map, drop}
use Rattle.std.specs.List.{flat_map}
use Rattle.smv_mentions.specs.Said.{said}
use Rattle.smv_scope.specs.Held.{lists_of}
use Rattle.smv_scope.proofs.build.all_lists.Given as goal

abbrev pub invariant-loop-piece : goal.invariant-loop-piece
invariant-loop-piece l = map (λ words. words.now) l.lists.items ++ flat_map (λ piece. flat_map (λ mention. lists_of (said mention)) piece.mentions.items) (drop l.piece-index l.pieces) ≡ flat_map (λ piece. flat_map (λ mention. lists_of (said mention)) piece.mentions.items) l.pieces
