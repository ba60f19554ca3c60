use Rattle.std.proofs.Common.{refl, subst}
use Rattle.smv_command.specs.declared.exit.Status.TheVariants as status
use Rattle.law_valid_texts.specs.Reports.{IsSoundDesign}
use Rattle.law_document_answers.proofs.Written.{proof_written, proof_checked, proof_resumed}
use Rattle.law_document_answers.proofs.documents.due_is_sound.Goals as goal

pub returns-clause-documented : goal.returns-clause-documented
returns-clause-documented c command text answer is =
    let r = proof_written command text status.Documented answer refl is in
    subst IsSoundDesign r.is_proof.design (c.checked_proofs_are_sound.ensures r.proof (c.kept_proofs_are_checked.ensures.checked text r.nodes r.steps r.proof r.is_proof))

pub returns-clause-checked : goal.returns-clause-checked
returns-clause-checked c command bytes answer is =
    let r = proof_checked command bytes status.Checked answer refl is in
    c.one_judgement.ensures.sound bytes r.0 r.1

pub returns-clause-resumed : goal.returns-clause-resumed
returns-clause-resumed c command bytes answer is =
    let r = proof_resumed command bytes status.Resumed answer refl is in
    (r.old, r.text, r.is_old, c.resumed_proofs_are_checked.ensures.sound r.proof.sets r.text r.nodes r.steps r.new r.is_new)
