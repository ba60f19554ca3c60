use Rattle.std.proofs.Common.{◌≤◌, ◌-◌, length, take_while, nat_lt}
use Rattle.smv_core.specs.declared.token.Token.{Token}
use Rattle.smv_ltl.proofs.tokens.count_before.Given as goal

abbrev pub invariant-loop-low : goal.invariant-loop-low
invariant-loop-low l = record {
  low : l.low ≤ length (take_while (λ (t : Token). nat_lt t.at l.at) l.tokens);
  high : length (take_while (λ (t : Token). nat_lt t.at l.at) l.tokens) ≤ l.high;
  within : l.high ≤ length l.tokens;
}

abbrev pub decreases-loop-low : goal.decreases-loop-low
decreases-loop-low l = l.high - l.low
