use Rattle.std.proofs.Common.{◌≡◌, ◌≤◌, length, take}
use Rattle.law_translated_texts.specs.Translation.{last_brace}
use Rattle.smv_ltl.proofs.tokens.last_brace.Given as goal

abbrev pub invariant-loop-count : goal.invariant-loop-count
invariant-loop-count l = record {
  within : l.count ≤ length l.tokens;
  left : last_brace (take l.count l.tokens) 0 ≡ last_brace l.tokens 0;
}

abbrev pub decreases-loop-count : goal.decreases-loop-count
decreases-loop-count l = l.count
