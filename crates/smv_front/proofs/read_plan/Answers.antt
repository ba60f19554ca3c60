use Rattle.std.proofs.Common.{◌≡◌, None, sym, subst, ◌∙◌}
use Rattle.smv_mentions.specs.FirstFault.{first_fault}
use Rattle.smv_cases.specs.Faults.{Refuses}
use Rattle.smv_front.specs.TextFault.{flat_text_fault}
use Rattle.smv_front.proofs.FaultLaws.{flat_text-answers}
use Rattle.smv_front.proofs.read_plan.Goals as goal

pub returns-clause-refuses : goal.returns-clause-refuses
returns-clause-refuses c =
    let none : first_fault c.args.text.now ≡ None = sym c.in_ok-fault.ensures ∙ c.in-None.is in
    flat_text-answers c.args.text.now c.flat_text_plan.result none c.in_ok-typed-in-None.ensures.0
    (subst (λ r. Refuses (flat_text_fault r) c.flat_text_plan.result) (c.into_raw.ensures.same ∙ c.in_ok-typed-in-None.ensures.1) c.flat_text_plan.ensures.refuses)
