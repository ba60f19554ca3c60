use Rattle.std.proofs.Common.{◌∙◌, Err, ap, arith, refl}
use Rattle.law_lists.proofs.Options.{if_ok_both}
use Rattle.law_judgements.specs.Judgements.Judgement.{yes, form, design, set}
use Rattle.smv_check.specs.declared.errors.CheckError.TheVariants as wrong
use Rattle.smv_check.proofs.Told.{few_sets}
use Rattle.smv_top.proofs.DocumentLaws.{design_fault, due_judged, due_refused_bytes, judged_is}
use Rattle.smv_top.proofs.documents.judged.Goals as goal

pub check_proof-requires-clause-proof : goal.check_proof-requires-clause-proof
check_proof-requires-clause-proof c = c.requires.spells.0

pub check_proof-requires-clause-few : goal.check_proof-requires-clause-few
check_proof-requires-clause-few c =
    let few = few_sets c.args.bytes.now c.args.proof.now c.requires.spells.1 in
    let within = c.requires.within in
    omega (arith, few, within)

pub returns-in-Ok : goal.returns-in-Ok
returns-in-Ok c =
    let is = judged_is c.args.bytes.now c.args.proof.now c.check_proof.result _ (yes c.in-Ok.sets) c.requires.spells c.check_proof.ensures c.in-Ok.is refl in
    if_ok_both c.checked.result _ _ _ (λ a s b. due_judged c.args.bytes.now a.status a.bytes.items (yes c.in-Ok.sets) c.requires.within is refl s b) c.checked.ensures.status c.checked.ensures.bytes

pub returns-in-Err-Form : goal.returns-in-Err-Form
returns-in-Err-Form c =
    let is = judged_is c.args.bytes.now c.args.proof.now c.check_proof.result (Err wrong.Form) form c.requires.spells c.check_proof.ensures (c.in-Err-Form.is ∙ ap Err c.in-Err-Form.field-0-is) refl in
    if_ok_both c.rejected_form.result _ _ _ (λ a s b. due_judged c.args.bytes.now a.status a.bytes.items form c.requires.within is refl s b) c.rejected_form.ensures.status c.rejected_form.ensures.bytes

pub returns-in-Err-Set : goal.returns-in-Err-Set
returns-in-Err-Set c =
    let is = judged_is c.args.bytes.now c.args.proof.now c.check_proof.result (Err (wrong.Set c.in-Err-Set.number)) (set c.in-Err-Set.number) c.requires.spells c.check_proof.ensures (c.in-Err-Set.is ∙ ap Err c.in-Err-Set.field-0-is) refl in
    if_ok_both c.rejected_set.result _ _ _ (λ a s b. due_judged c.args.bytes.now a.status a.bytes.items (set c.in-Err-Set.number) c.requires.within is refl s b) c.rejected_set.ensures.status c.rejected_set.ensures.bytes

pub returns-in-Err-Design : goal.returns-in-Err-Design
returns-in-Err-Design c =
    let fault = c.in-Err-Design.fault in
    let is = judged_is c.args.bytes.now c.args.proof.now c.check_proof.result (Err (wrong.Design fault)) (design fault.number fault.at) c.requires.spells c.check_proof.ensures (c.in-Err-Design.is ∙ ap Err c.in-Err-Design.field-0-is) refl in
    let bad = design_fault c.readings_are_spelled.ensures.one c.args.bytes.now c.args.proof.now fault.number fault.at c.requires.spells is in
    if_ok_both c.refused.result _ _ _ (λ a s b. due_refused_bytes c.args.bytes.now a.status a.bytes.items c.args.proof.now c.as_slice.result.now fault.number fault.at c.requires.within c.requires.spells bad c.as_slice.ensures s b) c.refused.ensures.status c.refused.ensures.bytes
