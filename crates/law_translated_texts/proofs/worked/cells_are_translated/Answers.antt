-- By computing.
use Rattle.std.proofs.Common.{refl}
use Rattle.smv_lex.specs.Lexing as l
use Rattle.law_places.proofs.Computing.{computing}
use Rattle.law_translated_texts.proofs.worked.cells_are_translated.Goals as goal

pub returns-clause-lexed : goal.returns-clause-lexed
unfolding l.word_kind l.word_front l.number_front l.sign_front l.front_of l.lexed_from
returns-clause-lexed c = refl

pub returns-clause-parts : goal.returns-clause-parts
unfolding l.word_kind l.word_front l.number_front l.sign_front l.front_of l.lexed_from
returns-clause-parts c = (refl, refl, refl)

pub returns-clause-closing : goal.returns-clause-closing
returns-clause-closing c = (refl, refl)

pub returns-clause-translated : goal.returns-clause-translated
unfolding l.word_kind l.word_front l.number_front l.sign_front l.front_of l.lexed_from computing
returns-clause-translated c = refl
