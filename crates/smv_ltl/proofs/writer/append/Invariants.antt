use Rattle.std.proofs.Common.{◌≡◌, ◌++◌, drop}
use Rattle.law_translated_texts.specs.Translation.{placed_at}
use Rattle.smv_ltl.proofs.writer.append.Given as goal

abbrev pub invariant-loop-byte : goal.invariant-loop-byte
invariant-loop-byte l = l.out.items ++ placed_at l.at (drop l.byte-index l.bytes) ≡ l.initial.out.items ++ placed_at l.at l.bytes
