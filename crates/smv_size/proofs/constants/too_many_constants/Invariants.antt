use Rattle.std.proofs.Common.{◌≡◌, take, length, map, []}
use Rattle.std.specs.Prelude.{min}
use Rattle.smv_mentions.specs.Said.{told}
use Rattle.smv_size.specs.Constants.{Counts, constants_told}
use Rattle.smv_size.proofs.constants.too_many_constants.Given as goal

abbrev pub invariant-loop-piece : goal.invariant-loop-piece
invariant-loop-piece l = record {
  total : l.total ≡ min 4097 (length l.names);
  names : Counts (constants_told (map told (take l.piece-index l.pieces))) [] l.names;
}
