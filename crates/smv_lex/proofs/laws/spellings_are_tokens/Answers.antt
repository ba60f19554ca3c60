use Rattle.std.proofs.Common.{refl}
use Rattle.smv_lex.specs.Lexing.{front_of, lexed_from, word_front, word_kind, number_front, sign_front}
use Rattle.smv_lex.proofs.laws.spellings_are_tokens.Goals as goal

pub returns : goal.returns
unfolding front_of lexed_from word_front word_kind number_front sign_front
returns c = record { signs = refl; words = refl }
