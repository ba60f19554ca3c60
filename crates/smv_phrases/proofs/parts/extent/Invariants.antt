use Rattle.std.proofs.Common.{◌≡◌, ◌+◌, ◌≤◌, zero, drop}
use Rattle.law_translated_texts.specs.Parts.{extent}
use Rattle.smv_phrases.proofs.parts.extent.Given as goal

abbrev pub invariant-loop-n : goal.invariant-loop-n
invariant-loop-n l = record {
  within : l.depth ≤ l.n;
  rest : l.n + extent l.depth (drop l.n l.tokens) ≡ extent zero l.tokens;
}
