use Rattle.std.proofs.Common.{◌≡◌, ◌++◌, drop}
use Rattle.std.specs.Prelude.{not}
use Rattle.std.specs.List.{flat_map}
use Rattle.smv_mentions.specs.NameFaults.{place_if}
use Rattle.smv_mentions.specs.FirstFault.{faults_at}
use Rattle.smv_operand_kinds.proofs.types.faults_unless.Given as goal

abbrev pub invariant-loop-word : goal.invariant-loop-word
invariant-loop-word l =
    l.out.items ++ flat_map (λ word. faults_at (12, place_if (not l.simple) word.at)) (drop l.word-index l.words)
    ≡ l.initial.out.items ++ flat_map (λ word. faults_at (12, place_if (not l.simple) word.at)) l.words
