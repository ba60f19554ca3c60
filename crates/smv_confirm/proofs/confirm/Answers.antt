use Rattle.std.proofs.Common.{List, refl, sym, ap, ◌∙◌}
use Rattle.smv_core.specs.declared.flat.Unit.{Unit as DesignUnit}
use Rattle.law_obligations.specs.Outlines.{place_of}
use Rattle.smv_read_design.specs.Named.{is_named}
use Rattle.smv_confirm.specs.declared.Confirmed.{Confirmed}
use Rattle.smv_confirm.specs.declared.subjects.Told.{Told}
use Rattle.smv_confirm.proofs.Named as named
use Rattle.smv_confirm.proofs.confirm.Goals as goal

pub tell-requires-clause-ready : goal.tell-requires-clause-ready
tell-requires-clause-ready c =
    named.ready c.args.text.now c.args.name.now c.args.sizes.now c.in-Ok.plan c.in-Ok.ensures.plan c.in-Some.place
    (ap (λ (us : List DesignUnit). place_of (is_named c.in-Ok.plan.design c.args.name.now) us) (sym c.as_slice.ensures) ∙ (sym c.in_ok-place-in-Ok.ensures ∙ c.in-Some.is))
    c.valid_texts_are_faultless.ensures c.designs_are_exact.ensures c.plans_of_valid_texts_are_whole.ensures

pub tell-requires-clause-place : goal.tell-requires-clause-place
tell-requires-clause-place c =
    named.there c.args.text.now c.args.name.now c.args.sizes.now c.in-Ok.plan c.in-Ok.ensures.plan c.in-Some.place
    (ap (λ (us : List DesignUnit). place_of (is_named c.in-Ok.plan.design c.args.name.now) us) (sym c.as_slice.ensures) ∙ (sym c.in_ok-place-in-Ok.ensures ∙ c.in-Some.is))

pub returns-in-Ok-tell-clause-confirmed : goal.returns-in-Ok-tell-clause-confirmed
returns-in-Ok-tell-clause-confirmed c =
    named.confirmed c.args.text.now c.args.name.now c.args.sizes.now c.in-Ok.plan c.in-Ok.ensures.plan c.in-Some.place
    (ap (λ (us : List DesignUnit). place_of (is_named c.in-Ok.plan.design c.args.name.now) us) (sym c.as_slice.ensures) ∙ (sym c.in_ok-place-in-Ok.ensures ∙ c.in-Some.is)) c.args.bits c.args.budgets.nodes c.args.budgets.steps
    (record { design = c.in-Ok.plan.design; params = c.in-Ok-tell.told.params; verdict = c.in-Ok-tell.told.verdict }) refl c.in-Ok-tell.ensures.params c.in-Ok-tell.ensures.refuses c.in-Ok-tell.ensures.verdict

pub returns-in-Err-tell-clause-fault : goal.returns-in-Err-tell-clause-fault
returns-in-Err-tell-clause-fault c =
    named.unit-fault c.args.text.now c.args.name.now c.args.sizes.now c.in-Ok.plan c.in-Ok.ensures.plan c.in-Some.place
    (ap (λ (us : List DesignUnit). place_of (is_named c.in-Ok.plan.design c.args.name.now) us) (sym c.as_slice.ensures) ∙ (sym c.in_ok-place-in-Ok.ensures ∙ c.in-Some.is)) Told Confirmed c.in-Err-tell.refusal c.in-Err-tell.ensures.refuses

pub returns-in-None-clause-fault : goal.returns-in-None-clause-fault
returns-in-None-clause-fault c =
    named.no-unit c.args.text.now c.args.name.now c.args.sizes.now c.in-Ok.plan c.in-Ok.ensures.plan
    (ap (λ (us : List DesignUnit). place_of (is_named c.in-Ok.plan.design c.args.name.now) us) (sym c.as_slice.ensures) ∙ (sym c.in_ok-place-in-Ok.ensures ∙ c.in-None.is))
