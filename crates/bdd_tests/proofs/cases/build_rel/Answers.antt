use Rattle.std.proofs.Common.{◌∙◌}
use Rattle.bdd_tests.proofs.Currents.{rel_live, true_of}
use Rattle.bdd_tests.proofs.cases.build_rel.Goals as goal

pub returns : goal.returns
returns c =
    let d = c.build_part-2.new.store in
    let a = c.in_ok-first.first in
    let b = c.in_ok-step.step in
    let keeps = c.build_part-2.ensures.keeps in
    let is = true_of c.in_ok-is_current_part.field-0 c.if-not-branch.false in
    record {
      rel = record {
        vars = keeps.vars ∙ c.build_part.ensures.keeps.vars ∙ c.requires.vars;
        live = rel_live d _ (λ i lt. keeps.live _ (c.in_ok-first.ensures.nows i lt)) (λ i lt. keeps.live _ (c.in_ok-first.ensures.befores i lt)) (keeps.live _ c.in_ok-first.ensures.broken)
            c.in_ok-step.ensures.nows c.in_ok-step.ensures.befores c.in_ok-step.ensures.broken;
        now_first = c.in_ok-is_current_part.ensures.nows is;
        before_first = c.in_ok-is_current_part.ensures.befores is;
        broken_first = c.in_ok-is_current_part.ensures.broken is;
      };
    }
