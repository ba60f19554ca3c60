use Rattle.std.proofs.Common.{◌≡◌, ◌++◌, [], drop}
use Rattle.smv_mentions.specs.Said.{words_at}
use Rattle.smv_look_names.specs.Names as spec
use Rattle.smv_look_names.proofs.names.push_before.Given as goal

abbrev pub invariant-loop-word : goal.invariant-loop-word
invariant-loop-word l = l.out.items ++ spec.first_before l.at l.seen (words_at (drop l.word-index l.words)) ≡ l.initial.out.items ++ spec.first_before l.at [] (words_at l.words)
