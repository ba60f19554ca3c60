use Rattle.std.proofs.Common.{◌≡◌, ◌∙◌, ℕ, List, ap}
use Rattle.smv_look_lint.specs.Signals.{families_mapped, families_picked, is_among}
use Rattle.smv_look_lint.proofs.lint.marks_of.Goals as goal

-- what a set holds, by the list that the numbers are
held : (ns ms all : List ℕ) → ns ≡ ms → ms ≡ all → (k : ℕ) → is_among ns k ≡ is_among all k
held ns ms all e f k = ap (λ (l : List ℕ). is_among l k) (e ∙ f)

pub returns : goal.returns
returns c = record {
  defined = λ k. c.in_ok-defined.ensures k ∙ held _ _ _ c.as_slice-3.ensures.value c.in_ok-all_defined.ensures k;
  read = λ k. c.in_ok-read.ensures k ∙ held _ _ _ c.as_slice-4.ensures.value c.in_ok-all_read.ensures k;
  mapped = λ k. c.in_ok-mapped.ensures k ∙ held _ _ _ c.as_slice-5.ensures.value (c.in_ok-all_mapped.ensures ∙ ap (families_mapped c.args.plan.now.design) c.as_slice.ensures) k;
  picked = λ k. c.in_ok-picked.ensures k ∙ held _ _ _ c.as_slice-6.ensures.value (c.in_ok-all_picked.ensures ∙ ap families_picked c.as_slice-2.ensures) k;
  inputs = λ k. c.in_ok-inputs.ensures k ∙ held _ _ _ c.as_slice-7.ensures.value c.in_ok-all_inputs.ensures k;
  outputs = λ k. c.in_ok-outputs.ensures k ∙ held _ _ _ c.as_slice-8.ensures.value c.in_ok-all_outputs.ensures k;
}
