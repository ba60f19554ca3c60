use Rattle.smv_command.specs.Ranges.{most_size}
use Rattle.smv_command.proofs.Values.{Reads}
use Rattle.smv_command.proofs.words.sizes_of.Given as goal

abbrev pub invariant-loop-word : goal.invariant-loop-word
invariant-loop-word l = Reads most_size l.words l.sizes l.word-index
