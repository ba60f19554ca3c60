use Rattle.std.proofs.Common.{◌≡◌, ◌++◌, [], ◌∷◌, map, drop}
use Rattle.std.specs.List.{flat_map}
use Rattle.smv_mentions.specs.Scopes.{own_names}
use Rattle.smv_mentions.specs.Said.{said}
use Rattle.smv_scope.specs.Held.{own_beside}
use Rattle.smv_scope.proofs.build.all_own.Given as goal

abbrev pub invariant-loop-piece : goal.invariant-loop-piece
invariant-loop-piece l = map (λ own. map own_beside own) l.all.items ++ map (λ piece. flat_map (λ mention. own_names (said mention ∷ [])) piece.mentions.items) (drop l.piece-index l.pieces) ≡ map (λ piece. flat_map (λ mention. own_names (said mention ∷ [])) piece.mentions.items) l.pieces
