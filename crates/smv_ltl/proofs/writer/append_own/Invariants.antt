use Rattle.std.proofs.Common.{◌≡◌, ◌+◌, ◌++◌, drop}
use Rattle.law_translated_texts.specs.Translation.{placed_from}
use Rattle.smv_ltl.proofs.writer.append_own.Given as goal

abbrev pub invariant-loop-n : goal.invariant-loop-n
invariant-loop-n l = l.out.items ++ placed_from (l.from + l.n) (drop l.n l.bytes) ≡ l.initial.out.items ++ placed_from l.from l.bytes
