use Rattle.std.proofs.Common.{◌≡◌, ◌≤◌, ◌^◌, ◌++◌, length, drop}
use Rattle.law_translated_texts.specs.Answers.{limit}
use Rattle.law_translated_texts.specs.Translation.{edited, edits}
use Rattle.smv_ltl.specs.Planned.{plan_of}
use Rattle.smv_ltl.proofs.edits.edit.Given as goal

abbrev pub invariant-loop-n : goal.invariant-loop-n
invariant-loop-n l = record {
  fits : length l.out.items ≤ limit;
  within : l.from ≤ 2 ^ 32;
  told : l.out.items ++ edited l.source.text.now l.from (edits l.source.text.now l.source.tokens.now (plan_of l.plan) l.layer (drop l.n l.tops)) ≡ edited l.source.text.now 0 (edits l.source.text.now l.source.tokens.now (plan_of l.plan) l.layer l.tops);
}
