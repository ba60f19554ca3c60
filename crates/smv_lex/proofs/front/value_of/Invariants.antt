use Rattle.std.proofs.Common.{◌≡◌, take, min}
use Rattle.smv_lex.specs.Lexing.{number_of}
use Rattle.smv_lex.proofs.front.value_of.Given as goal

abbrev pub invariant-loop-digit : goal.invariant-loop-digit
invariant-loop-digit l = l.value ≡ min (number_of (take l.digit-index l.digits)) 512
