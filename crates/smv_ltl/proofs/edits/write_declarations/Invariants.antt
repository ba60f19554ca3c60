use Rattle.std.proofs.Common.{◌≡◌, ◌≤◌, ◌++◌, length, drop}
use Rattle.law_translated_texts.specs.Answers.{limit}
use Rattle.smv_ltl.specs.Edits.{all_declared}
use Rattle.smv_ltl.proofs.edits.write_declarations.Given as goal

abbrev pub invariant-loop-one : goal.invariant-loop-one
invariant-loop-one l = record {
  fits : length l.out.items ≤ limit;
  told : l.out.items ++ all_declared l.source (drop l.one-index l.changed) ≡ l.initial.out.items ++ all_declared l.source l.changed;
}
