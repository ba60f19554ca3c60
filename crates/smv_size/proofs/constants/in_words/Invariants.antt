use Rattle.std.proofs.Common.{◌≡◌, take, length}
use Rattle.std.specs.Prelude.{min}
use Rattle.smv_core.specs.Types.{names_of}
use Rattle.smv_size.specs.Constants.{Counts}
use Rattle.smv_size.proofs.constants.in_words.Given as goal

abbrev pub invariant-loop-word : goal.invariant-loop-word
invariant-loop-word l = record {
  total : l.total ≡ min 4097 (length l.names);
  names : Counts (names_of (take l.word-index l.words)) l.initial.names l.names;
}
