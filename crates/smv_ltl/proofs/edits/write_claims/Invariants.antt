use Rattle.std.proofs.Common.{◌≡◌, ◌≤◌, ◌^◌, ◌++◌, List, length, drop}
use Rattle.law_translated_texts.specs.Answers.{limit}
use Rattle.law_translated_texts.specs.Translation.{Edit, edited}
use Rattle.smv_ltl.specs.Edits.{edits_of}
use Rattle.smv_ltl.proofs.edits.write_claims.Given as goal

abbrev pub invariant-loop-one : goal.invariant-loop-one
invariant-loop-one l = record {
  fits : length l.out.items ≤ limit;
  within : l.at ≤ 2 ^ 32;
  told : (more : List Edit) → l.out.items ++ edited l.source.text.now l.at (edits_of l.source (drop l.one-index l.changed) ++ more) ≡ l.initial.out.items ++ edited l.source.text.now l.from (edits_of l.source l.changed ++ more);
}
