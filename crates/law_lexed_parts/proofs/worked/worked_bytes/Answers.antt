-- By computing.
use Rattle.std.proofs.Common.{refl}
use Rattle.smv_lex.specs.Lexing as l
use Rattle.law_lexed_parts.proofs.worked.worked_bytes.Goals as goal

pub returns-clause-alone : goal.returns-clause-alone
unfolding l.word_kind l.word_front l.number_front l.sign_front l.front_of
returns-clause-alone c = ((λ e. absurd (cc (e)), (λ e. absurd (cc (e)), (λ e. absurd (cc (e)), (λ e. absurd (cc (e)), tt)))), refl)

pub returns-clause-comment : goal.returns-clause-comment
unfolding l.word_kind l.word_front l.number_front l.sign_front l.front_of
returns-clause-comment c ts h = h.0.1.1.1

pub returns-clause-together : goal.returns-clause-together
returns-clause-together c = (refl, refl, refl, refl, refl)
