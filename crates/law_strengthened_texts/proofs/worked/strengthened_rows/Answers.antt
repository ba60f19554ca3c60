-- By computing.
use Rattle.std.proofs.Common.{refl}
use Rattle.smv_lex.specs.Lexing as l
use Rattle.law_strengthened_texts.proofs.worked.strengthened_rows.Goals as goal

pub returns-clause-lexed : goal.returns-clause-lexed
unfolding l.word_kind l.word_front l.number_front l.sign_front l.front_of l.lexed_from
returns-clause-lexed c = refl

pub returns-clause-body : goal.returns-clause-body
returns-clause-body c = refl

pub returns-clause-ends : goal.returns-clause-ends
unfolding l.word_kind l.word_front l.number_front l.sign_front l.front_of l.lexed_from
returns-clause-ends c = refl

pub returns-clause-new : goal.returns-clause-new
returns-clause-new c = refl

pub returns-clause-renamed : goal.returns-clause-renamed
returns-clause-renamed c = refl

pub returns-clause-names : goal.returns-clause-names
unfolding l.word_kind l.word_front l.number_front l.sign_front l.front_of l.lexed_from
returns-clause-names c = refl

pub returns-clause-names_renamed : goal.returns-clause-names_renamed
returns-clause-names_renamed c = refl

pub returns-clause-refused : goal.returns-clause-refused
returns-clause-refused c = (refl, refl, refl, refl, refl)

pub returns-clause-put : goal.returns-clause-put
returns-clause-put c = refl

pub returns-clause-backwards : goal.returns-clause-backwards
returns-clause-backwards c = (refl, refl, refl, refl)
