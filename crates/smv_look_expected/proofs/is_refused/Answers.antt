use Rattle.std.proofs.Common.{ℕ, ◌+◌, ◌∙◌, List, sym, subst}
use Rattle.smv_parse.specs.Spelling.{HasFault}
use Rattle.smv_look_expected.proofs.is_refused.Goals as goal

pub returns-in-Ok-clause-fits : goal.returns-in-Ok-clause-fits
returns-in-Ok-clause-fits c = λ e bad.
    c.one_answer.ensures.not_both c.as_slice.result.now c.in-Ok.field-0 5 (c.args.at + 1) c.in-Ok.ensures.tree
    (subst (λ (l : List ℕ). HasFault l 5 (c.args.at + 1)) (sym (c.as_slice.ensures.value ∙ c.in_ok-tried.ensures)) bad)
