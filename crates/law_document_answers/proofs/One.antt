-- One status is due, and where no unit is false one answer.
use Rattle.std.proofs.Common.{◌≡◌, ◌∙◌, ℕ, false, List, [], refl, sym, ap, ap₂, subst, arith, true≢false}
use Rattle.std.specs.Prelude.{◌≢◌}
use Rattle.smv_parse.specs.Laws.{IsNotBoth, IsOneFault}
use Rattle.smv_report.specs.Lines.{fault_text}
use Rattle.smv_problem.specs.declared.report.Budgets.{Budgets}
use Rattle.smv_problem.specs.declared.report.Report.{Report}
use Rattle.smv_command.specs.declared.commands.Command.{Command}
use Rattle.smv_command.specs.declared.commands.Command.TheVariants.{Prove, Only, Print, Generated, Proof, Check, Resume, Confirm, Induct, Ltl}
use Rattle.smv_command.specs.declared.exit.Status.{Status}
use Rattle.smv_command.specs.declared.exit.Status.TheVariants as status
use Rattle.law_events.specs.Laws.{OneVerdict}
use Rattle.law_reports.specs.Lines.{report_lines}
use Rattle.law_valid_texts.specs.Laws.{OneTree}
use Rattle.law_valid_texts.specs.Reports.{IsRightReport}
use Rattle.smv_bits.specs.declared.Bits.TheVariants.{Declared}
use Rattle.smv_proof.specs.declared.proof.KeptSet.{KeptSet}
use Rattle.smv_proof.specs.declared.proof.Proof.{Proof as Document}
use Rattle.smv_proof.specs.Documents.{document, Spells}
use Rattle.smv_proof.specs.Laws.{OneProof}
use Rattle.law_checked_proofs.specs.Kept.{IsProofOf}
use Rattle.law_checked_proofs.specs.KeptLaws.{OneProofOf}
use Rattle.law_checked_proofs.specs.Resumed.{IsResumedProof, IsResumedReport}
use Rattle.law_checked_proofs.specs.ResumedLaws.{OneResumedProof, ResumedProofsAreOfTrueTexts, NothingIsResumed, NothingIsReported}
use Rattle.law_judgements.specs.Judgements.{IsFaultOf, Judgement, IsJudged, has_fault}
use Rattle.law_judgements.specs.Judgements.Judgement.{form, design}
use Rattle.law_judgements.specs.Laws.{OneJudgement}
use Rattle.law_judgements.proofs.One.{no_fault, same_fault}
use Rattle.law_document_answers.specs.Statuses.{status_of}
use Rattle.law_document_answers.specs.Dues.{IsDocumentDue, IsOld, documented, open_report, refused_text, too_long_to_check, judged, refused_design, too_long_to_resume, not_old, refused_new, resumed, open_resumed, status_by, judged_text, is_of_design}
use Rattle.law_document_answers.proofs.Statuses.{same_status, all_true, none_false}
use Rattle.law_document_answers.proofs.Alike.{reports_alike, same_report}
use Rattle.law_document_answers.proofs.Old.{one_old}

-- two statuses and two answers that are one, the answers where no unit is false
pub record Same (due other : Status) (answer another : List ℕ) : Type 0 where
  pub statuses : due ≡ other
  pub answers : due ≢ status.SomeFalse → answer ≡ another

same : (due : Status) (answer : List ℕ) → Same due due answer answer
same due answer = record { statuses = refl; answers = λ not. refl }

module _ (not_both : IsNotBoth) (one_fault : IsOneFault) (one_tree : OneTree) (one_verdict : OneVerdict) (one_proof_of : OneProofOf) (one_resumed : OneResumedProof) (true_texts : ResumedProofsAreOfTrueTexts)
    (nothing : NothingIsResumed) (nothing_told : NothingIsReported) (one_judged : OneJudgement) (one_spelled : OneProof) where
  -- the status of a text's fault, and of another
  one_refused : (text : List ℕ) (number other at place : ℕ) → IsFaultOf text number at → IsFaultOf text other place → Same status.Refused status.Refused (fault_text text number at) (fault_text text other place)
  one_refused text number other at place fault fault_too =
      let r = same_fault not_both one_fault one_tree text number other at place fault fault_too in
      record { statuses = refl; answers = λ not. ap₂ (fault_text text) r.0 r.1 }

  -- two reports of what is resumed
  one_open : (proved : Status) (budgets : Budgets) (old : List KeptSet) (text : List ℕ) (report other : Report) → IsResumedReport old budgets.nodes budgets.steps text report → IsResumedReport old budgets.nodes budgets.steps text other →
      Same (status_of proved report) (status_of proved other) (report_lines report) (report_lines other)
  one_open proved budgets old text report other is is_too = record {
    statuses = same_status proved report other (reports_alike one_verdict old budgets.nodes budgets.steps one_tree text report other is is_too);
    answers = λ not. ap report_lines (same_report one_verdict old budgets.nodes budgets.steps one_tree text report other is is_too (none_false proved report not));
  }

  -- beside a resumed proof no report is open
  not_open : (proved : Status) (budgets : Budgets) (old : List KeptSet) (text : List ℕ) (proof : Document) (report : Report) → IsResumedProof old budgets.nodes budgets.steps text proof →
      IsResumedReport old budgets.nodes budgets.steps text report → status_of proved report ≢ proved → ⊥
  not_open proved budgets old text proof report is told unproved = unproved (all_true proved report (true_texts old text budgets.nodes budgets.steps proof report is told))

  -- ---- a document is asked for

  abbrev right_as : (budgets : Budgets) (text : List ℕ) (report : Report) → IsRightReport text Declared budgets.nodes budgets.steps report → IsResumedReport [] budgets.nodes budgets.steps text report
  right_as budgets text report right = (nothing_told text budgets.nodes budgets.steps report).1 right

  proof_as : (budgets : Budgets) (text : List ℕ) (proof : Document) → IsProofOf budgets.nodes budgets.steps text proof → IsResumedProof [] budgets.nodes budgets.steps text proof
  proof_as budgets text proof is = (nothing text budgets.nodes budgets.steps proof).1 is

  one_documented : (budgets : Budgets) (text : List ℕ) (due other : Status) (answer another : List ℕ) → IsDocumentDue (Proof budgets) text due answer → IsDocumentDue (Proof budgets) text other another → Same due other answer another
  one_documented _ text _ _ _ _ (documented budgets proof is) (documented _ another is_too) =
      record { statuses = refl; answers = λ not. ap document (one_proof_of text budgets.nodes budgets.steps proof another is is_too) }
  one_documented _ text _ _ _ _ (documented budgets proof is) (open_report _ report right unproved) =
      absurd (not_open status.Documented budgets [] text proof report (proof_as budgets text proof is) (right_as budgets text report right) unproved)
  one_documented _ text _ _ _ _ (documented budgets proof is) (refused_text _ number at fault) = absurd (no_fault not_both one_fault one_tree text is.tree number at is.is_valid fault)
  one_documented _ text _ _ _ _ (open_report budgets report right unproved) (documented _ proof is) =
      absurd (not_open status.Documented budgets [] text proof report (proof_as budgets text proof is) (right_as budgets text report right) unproved)
  one_documented _ text _ _ _ _ (open_report budgets report right unproved) (open_report _ other right_too open_too) =
      one_open status.Documented budgets [] text report other (right_as budgets text report right) (right_as budgets text other right_too)
  one_documented _ text _ _ _ _ (open_report budgets report right unproved) (refused_text _ number at fault) = absurd (no_fault not_both one_fault one_tree text right.0 number at right.1 fault)
  one_documented _ text _ _ _ _ (refused_text budgets number at fault) (documented _ proof is) = absurd (no_fault not_both one_fault one_tree text is.tree number at is.is_valid fault)
  one_documented _ text _ _ _ _ (refused_text budgets number at fault) (open_report _ report right unproved) = absurd (no_fault not_both one_fault one_tree text right.0 number at right.1 fault)
  one_documented _ text _ _ _ _ (refused_text budgets number at fault) (refused_text _ other place fault_too) = one_refused text number other at place fault fault_too

  -- ---- a document is checked

  design_not : (bytes : List ℕ) (j : Judgement) (proof : Document) (number at : ℕ) → IsJudged bytes j → is_of_design j ≡ false → Spells bytes proof → IsFaultOf proof.design number at → ⊥
  design_not bytes j proof number at is not spells fault =
      true≢false (sym (ap is_of_design (one_judged bytes j (design number at) is (has_fault proof number at spells fault))) ∙ not)

  one_checked : (bytes : List ℕ) (due other : Status) (answer another : List ℕ) → IsDocumentDue Check bytes due answer → IsDocumentDue Check bytes other another → Same due other answer another
  one_checked bytes _ _ _ _ (too_long_to_check long) (too_long_to_check longer) = same status.Refused (fault_text bytes 33 0)
  one_checked bytes _ _ _ _ (too_long_to_check long) (judged j within is not) = absurd (omega (arith, long, within))
  one_checked bytes _ _ _ _ (too_long_to_check long) (refused_design proof number at within spells fault) = absurd (omega (arith, long, within))
  one_checked bytes _ _ _ _ (judged j within is not) (too_long_to_check long) = absurd (omega (arith, long, within))
  one_checked bytes _ _ _ _ (judged j within is not) (judged i within_too is_too not_too) =
      let r = one_judged bytes j i is is_too in
      record { statuses = ap status_by r; answers = λ never. ap judged_text r }
  one_checked bytes _ _ _ _ (judged j within is not) (refused_design proof number at within_too spells fault) = absurd (design_not bytes j proof number at is not spells fault)
  one_checked bytes _ _ _ _ (refused_design proof number at within spells fault) (too_long_to_check long) = absurd (omega (arith, long, within))
  one_checked bytes _ _ _ _ (refused_design proof number at within spells fault) (judged j within_too is not) = absurd (design_not bytes j proof number at is not spells fault)
  one_checked bytes _ _ _ _ (refused_design proof number at within spells fault) (refused_design other number_too at_too within_too spells_too fault_too) =
      let proofs = one_spelled bytes other proof spells_too spells in
      let r = one_refused proof.design number number_too at at_too fault (subst (λ (p : Document). IsFaultOf p.design number_too at_too) proofs fault_too) in
      record { statuses = refl; answers = λ not. r.answers not ∙ ap (λ (p : Document). fault_text p.design number_too at_too) (sym proofs) }

  -- ---- a document is resumed

  -- of one old document and one new design
  record Cut (bytes old text other another : List ℕ) (proof proof_too : Document) : Type 0 where
    pub texts : text ≡ another
    pub proofs : proof ≡ proof_too

  cut_of : (bytes old text other another : List ℕ) (proof proof_too : Document) → IsOld bytes old text → IsOld bytes other another → Spells old proof → Spells other proof_too → Cut bytes old text other another proof proof_too
  cut_of bytes old text other another proof proof_too is is_too spells spells_too =
      let r = one_old bytes old text other another is is_too in
      record { texts = r.1; proofs = one_spelled other proof proof_too (subst (λ (xs : List ℕ). Spells xs proof) r.0 spells) spells_too }

  one_resumption : (budgets : Budgets) (bytes : List ℕ) (due other : Status) (answer another : List ℕ) → IsDocumentDue (Resume budgets) bytes due answer → IsDocumentDue (Resume budgets) bytes other another → Same due other answer another
  one_resumption _ bytes _ _ _ _ (too_long_to_resume budgets long) (too_long_to_resume _ longer) = same status.Refused (fault_text bytes 33 0)
  one_resumption _ bytes _ _ _ _ (too_long_to_resume budgets long) (not_old _ within none) = absurd (omega (arith, long, within))
  one_resumption _ bytes _ _ _ _ (too_long_to_resume budgets long) (refused_new _ old text proof number at within is spells fault) = absurd (omega (arith, long, within))
  one_resumption _ bytes _ _ _ _ (too_long_to_resume budgets long) (resumed _ old text proof new within is spells is_new) = absurd (omega (arith, long, within))
  one_resumption _ bytes _ _ _ _ (too_long_to_resume budgets long) (open_resumed _ old text proof report within is spells told unproved) = absurd (omega (arith, long, within))
  one_resumption _ bytes _ _ _ _ (not_old budgets within none) (too_long_to_resume _ long) = absurd (omega (arith, long, within))
  one_resumption _ bytes _ _ _ _ (not_old budgets within none) (not_old _ within_too none_too) = same status.Rejected (judged_text form)
  one_resumption _ bytes _ _ _ _ (not_old budgets within none) (refused_new _ old text proof number at within_too is spells fault) = absurd (none old text proof is spells)
  one_resumption _ bytes _ _ _ _ (not_old budgets within none) (resumed _ old text proof new within_too is spells is_new) = absurd (none old text proof is spells)
  one_resumption _ bytes _ _ _ _ (not_old budgets within none) (open_resumed _ old text proof report within_too is spells told unproved) = absurd (none old text proof is spells)
  one_resumption _ bytes _ _ _ _ (refused_new budgets old text proof number at within is spells fault) (too_long_to_resume _ long) = absurd (omega (arith, long, within))
  one_resumption _ bytes _ _ _ _ (refused_new budgets old text proof number at within is spells fault) (not_old _ within_too none) = absurd (none old text proof is spells)
  one_resumption _ bytes _ _ _ _ (refused_new budgets old text proof number at within is spells fault) (refused_new _ other another proof_too number_too at_too within_too is_too spells_too fault_too) =
      let r = cut_of bytes old text other another proof proof_too is is_too spells spells_too in
      let s = one_refused text number number_too at at_too fault (subst (λ (xs : List ℕ). IsFaultOf xs number_too at_too) (sym r.texts) fault_too) in
      record { statuses = refl; answers = λ not. s.answers not ∙ ap (λ (xs : List ℕ). fault_text xs number_too at_too) r.texts }
  one_resumption _ bytes _ _ _ _ (refused_new budgets old text proof number at within is spells fault) (resumed _ other another proof_too new within_too is_too spells_too is_new) =
      let r = cut_of bytes old text other another proof proof_too is is_too spells spells_too in
      absurd (no_fault not_both one_fault one_tree another is_new.tree number at is_new.is_valid (subst (λ (xs : List ℕ). IsFaultOf xs number at) r.texts fault))
  one_resumption _ bytes _ _ _ _ (refused_new budgets old text proof number at within is spells fault) (open_resumed _ other another proof_too report within_too is_too spells_too told unproved) =
      let r = cut_of bytes old text other another proof proof_too is is_too spells spells_too in
      absurd (no_fault not_both one_fault one_tree another told.tree number at told.is_valid (subst (λ (xs : List ℕ). IsFaultOf xs number at) r.texts fault))
  one_resumption _ bytes _ _ _ _ (resumed budgets old text proof new within is spells is_new) (too_long_to_resume _ long) = absurd (omega (arith, long, within))
  one_resumption _ bytes _ _ _ _ (resumed budgets old text proof new within is spells is_new) (not_old _ within_too none) = absurd (none old text proof is spells)
  one_resumption _ bytes _ _ _ _ (resumed budgets old text proof new within is spells is_new) (refused_new _ other another proof_too number at within_too is_too spells_too fault) =
      let r = cut_of bytes old text other another proof proof_too is is_too spells spells_too in
      absurd (no_fault not_both one_fault one_tree text is_new.tree number at is_new.is_valid (subst (λ (xs : List ℕ). IsFaultOf xs number at) (sym r.texts) fault))
  one_resumption _ bytes _ _ _ _ (resumed budgets old text proof new within is spells is_new) (resumed _ other another proof_too new_too within_too is_too spells_too is_new_too) =
      let r = cut_of bytes old text other another proof proof_too is is_too spells spells_too in
      let moved = subst (λ (p : Document). IsResumedProof p.sets budgets.nodes budgets.steps another new) r.proofs (subst (λ (xs : List ℕ). IsResumedProof proof.sets budgets.nodes budgets.steps xs new) r.texts is_new) in
      record { statuses = refl; answers = λ not. ap document (one_resumed proof_too.sets another budgets.nodes budgets.steps new new_too moved is_new_too) }
  one_resumption _ bytes _ _ _ _ (resumed budgets old text proof new within is spells is_new) (open_resumed _ other another proof_too report within_too is_too spells_too told unproved) =
      let r = cut_of bytes old text other another proof proof_too is is_too spells spells_too in
      let moved = subst (λ (p : Document). IsResumedProof p.sets budgets.nodes budgets.steps another new) r.proofs (subst (λ (xs : List ℕ). IsResumedProof proof.sets budgets.nodes budgets.steps xs new) r.texts is_new) in
      absurd (not_open status.Resumed budgets proof_too.sets another new report moved told unproved)
  one_resumption _ bytes _ _ _ _ (open_resumed budgets old text proof report within is spells told unproved) (too_long_to_resume _ long) = absurd (omega (arith, long, within))
  one_resumption _ bytes _ _ _ _ (open_resumed budgets old text proof report within is spells told unproved) (not_old _ within_too none) = absurd (none old text proof is spells)
  one_resumption _ bytes _ _ _ _ (open_resumed budgets old text proof report within is spells told unproved) (refused_new _ other another proof_too number at within_too is_too spells_too fault) =
      let r = cut_of bytes old text other another proof proof_too is is_too spells spells_too in
      absurd (no_fault not_both one_fault one_tree text told.tree number at told.is_valid (subst (λ (xs : List ℕ). IsFaultOf xs number at) (sym r.texts) fault))
  one_resumption _ bytes _ _ _ _ (open_resumed budgets old text proof report within is spells told unproved) (resumed _ other another proof_too new within_too is_too spells_too is_new) =
      let r = cut_of bytes old text other another proof proof_too is is_too spells spells_too in
      let moved = subst (λ (p : Document). IsResumedReport p.sets budgets.nodes budgets.steps another report) r.proofs (subst (λ (xs : List ℕ). IsResumedReport proof.sets budgets.nodes budgets.steps xs report) r.texts told) in
      absurd (not_open status.Resumed budgets proof_too.sets another new report is_new moved unproved)
  one_resumption _ bytes _ _ _ _ (open_resumed budgets old text proof report within is spells told unproved) (open_resumed _ other another proof_too report_too within_too is_too spells_too told_too open_too) =
      let r = cut_of bytes old text other another proof proof_too is is_too spells spells_too in
      let moved = subst (λ (p : Document). IsResumedReport p.sets budgets.nodes budgets.steps another report) r.proofs (subst (λ (xs : List ℕ). IsResumedReport proof.sets budgets.nodes budgets.steps xs report) r.texts told) in
      one_open status.Resumed budgets proof_too.sets another report report_too moved told_too

  -- ---- whatever is asked

  pub one_due : (command : Command) (text : List ℕ) (due other : Status) (answer another : List ℕ) → IsDocumentDue command text due answer → IsDocumentDue command text other another → Same due other answer another
  one_due (Proof budgets) text due other answer another is is_too = one_documented budgets text due other answer another is is_too
  one_due Check text due other answer another is is_too = one_checked text due other answer another is is_too
  one_due (Resume budgets) text due other answer another is is_too = one_resumption budgets text due other answer another is is_too
  one_due (Prove bits budgets) text due other answer another is is_too = elim is [ ]
  one_due (Only name bits budgets) text due other answer another is is_too = elim is [ ]
  one_due Print text due other answer another is is_too = elim is [ ]
  one_due (Generated copies) text due other answer another is is_too = elim is [ ]
  one_due (Confirm name sizes bits budgets) text due other answer another is is_too = elim is [ ]
  one_due (Induct name var budgets) text due other answer another is is_too = elim is [ ]
  one_due (Ltl bits budgets) text due other answer another is is_too = elim is [ ]
