use Rattle.std.proofs.Common.{◌≡◌, ◌+◌, ◌-◌, ◌≤◌, drop, length}
use Rattle.std.specs.Option.{option_map}
use Rattle.smv_lex.specs.Lexing.{closing}
use Rattle.smv_lex.proofs.front.end_of_comment.Given as goal

abbrev pub invariant-loop-at : goal.invariant-loop-at
invariant-loop-at l = record {
  within : l.at ≤ length l.bytes;
  end : option_map (λ n. l.at + n) (closing (drop l.at l.bytes)) ≡ closing l.bytes;
}

abbrev pub decreases-loop-at : goal.decreases-loop-at
decreases-loop-at l = length l.bytes - l.at
