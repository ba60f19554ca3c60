use Rattle.std.proofs.Common.{subst}
use Rattle.std.proofs.lemmas.List.{take_all}
use Rattle.smv_core.specs.Types.{names_of}
use Rattle.smv_size.specs.Constants.{Counts}
use Rattle.smv_size.proofs.ConstantLaws.{counts-word, counts-none}
use Rattle.smv_size.proofs.constants.in_words.Goals as goal

pub loop-word-init : goal.loop-word-init
loop-word-init c = record { total = c.requires; names = counts-none c.args.names.now }

pub loop-word-preserved : goal.loop-word-preserved
loop-word-preserved c = record {
  total = c.in_ok-note.ensures.total;
  names = counts-word c.args.words.now c.loop-word.word-index c.word-item.result c.args.names.now c.loop-word.names c.note.new.names c.loop-word-test.true c.word-item.is c.loop-word.invariant.names c.in_ok-note.ensures.names;
}

pub returns-clause-names : goal.returns-clause-names
returns-clause-names c = subst (λ l. Counts (names_of l) c.args.names.now c.loop-word.names) (take_all c.loop-word.word-index c.args.words.now c.loop-word-test.false) c.loop-word.invariant.names
