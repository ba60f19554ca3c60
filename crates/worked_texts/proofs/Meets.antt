-- By computing the tree and its faults; the reader answers right, so tokens spell the tree.
use Rattle.law_designs.proofs.Opening.{opening}
use Rattle.std.proofs.Common.{[], refl}
use Rattle.smv_core.specs.Notation.{Tokens}
use Rattle.smv_lex.specs.Lexing.{Lexed, lexed}
use Rattle.std.specs.Prelude.{Ok, Err}
use Rattle.law_grammar.proofs.Whole.{answered}
use Rattle.worked_texts.specs.Tomasulo.{machine}
use Rattle.worked_texts.specs.Right.{small}
use Rattle.worked_texts.proofs.FlatteningComputing.{computing}
use Rattle.worked_texts.specs.Meets.{MeetsConditions}

abbrev tokens_in : Lexed → Tokens
tokens_in (Ok tokens) = tokens
tokens_in (Err fault) = []

pub small-meets : MeetsConditions small
unfolding opening computing
small-meets = (64, tokens_in (lexed small), answered 64 0 (tokens_in (lexed small)), refl, refl)

pub machine-meets : MeetsConditions machine
unfolding opening computing
machine-meets = (64, tokens_in (lexed machine), answered 64 0 (tokens_in (lexed machine)), refl, refl)
