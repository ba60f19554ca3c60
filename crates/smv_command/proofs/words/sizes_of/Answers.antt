use Rattle.std.proofs.Common.{ℕ, List, subst, sym}
use Rattle.smv_command.specs.Ranges.{most_size}
use Rattle.smv_command.proofs.Values.{Reads, reads_none, reads_all}
use Rattle.smv_command.proofs.words.sizes_of.Goals as goal

pub loop-word-init : goal.loop-word-init
loop-word-init c = subst (λ (found : List ℕ). Reads most_size c.args.words.now found 0) (sym c.new-sizes.ensures) (reads_none most_size c.args.words.now)

pub returns : goal.returns
returns c = reads_all most_size c.args.words.now c.loop-word.word-index c.loop-word.sizes c.loop-word-test.false c.loop-word.invariant
