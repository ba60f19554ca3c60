use Rattle.std.proofs.Common.{◌≡◌, ◌++◌, map, drop}
use Rattle.smv_mentions.specs.Said.{words_at}
use Rattle.smv_look_names.proofs.words.top_words.Given as goal

abbrev pub invariant-loop-piece : goal.invariant-loop-piece
invariant-loop-piece l = words_at l.out.items ++ map (λ piece. piece.word.now) (drop l.piece-index l.pieces) ≡ map (λ piece. piece.word.now) l.pieces
