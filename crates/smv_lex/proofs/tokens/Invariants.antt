use Rattle.std.proofs.Common.{◌≡◌, ◌≤◌, ◌-◌, drop, length}
use Rattle.smv_lex.specs.Lexing.{lexed_from, lexed}
use Rattle.smv_lex.proofs.Lexing.{with_front}
use Rattle.smv_lex.proofs.tokens.Given as goal

abbrev pub invariant-loop-at : goal.invariant-loop-at
invariant-loop-at l = record {
  within : l.at ≤ length l.text;
  read : with_front l.tokens (lexed_from l.at 0 (drop l.at l.text)) ≡ lexed l.text;
}

abbrev pub decreases-loop-at : goal.decreases-loop-at
decreases-loop-at l = length l.text - l.at
