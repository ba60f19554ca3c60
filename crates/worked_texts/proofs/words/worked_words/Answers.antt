-- The definition computes at words that are written out.
use Rattle.std.proofs.Common.{refl}
use Rattle.clap.proofs.OnLiterals.{clap_on_literals}
use Rattle.smv_command.specs.Commands.{command_of, named}
use Rattle.worked_texts.proofs.words.worked_words.Goals as goal

pub returns : goal.returns
unfolding clap_on_literals command_of named
returns c = record { nothing = refl; none = refl; options = refl; numbers = refl; misnamed = refl; places = refl; budgets = refl; bits = refl; bounds = refl; names = refl; plain = refl }
