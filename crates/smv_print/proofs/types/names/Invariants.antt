use Rattle.std.proofs.Common.{◌≡◌, ◌++◌, map, drop}
use Rattle.smv_core.specs.Signs.{comma}
use Rattle.smv_print.specs.Written.{written, preceded}
use Rattle.smv_print.specs.Types.{word_kinds}
use Rattle.smv_print.proofs.types.names.Given as goal

abbrev pub invariant-loop-word : goal.invariant-loop-word
invariant-loop-word l = l.out.items ++ written (preceded comma (map word_kinds (drop l.word-index l.more))) ≡ l.initial.out.items ++ written (preceded comma (map word_kinds l.more))
