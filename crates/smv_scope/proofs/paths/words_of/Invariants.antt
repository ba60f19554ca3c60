use Rattle.std.proofs.Common.{◌≡◌, ◌++◌, drop}
use Rattle.std.specs.List.{flat_map}
use Rattle.smv_mentions.specs.Said.{words_at}
use Rattle.smv_scope.specs.Numbered.{word_in}
use Rattle.smv_scope.proofs.paths.words_of.Given as goal

abbrev pub invariant-loop-part : goal.invariant-loop-part
invariant-loop-part l = words_at l.out.items ++ flat_map word_in (drop l.part-index l.parts) ≡ flat_map word_in l.parts
