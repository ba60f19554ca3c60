-- What a call owes to the commands that read or write proof documents.
use Rattle.std.specs.Prelude.{◌≡◌, ◌≢◌, ◌≤◌, ◌<◌, ℕ, Bool, true, false, List, [], ◌∷◌, length, codes}
use Rattle.std.specs.Fmt.{decimal}
use Rattle.smv_bits.specs.declared.Bits.TheVariants.{Declared}
use Rattle.smv_problem.specs.declared.report.Report.{Report}
use Rattle.smv_problem.specs.declared.report.Budgets.{Budgets}
use Rattle.smv_report.specs.Lines.{fault_text}
use Rattle.law_reports.specs.Lines.{report_lines}
use Rattle.law_valid_texts.specs.Reports.{IsRightReport}
use Rattle.smv_command.specs.declared.commands.Command.{Command}
use Rattle.smv_command.specs.declared.commands.Command.TheVariants.{Proof, Check, Resume}
use Rattle.smv_command.specs.declared.exit.Status.{Status}
use Rattle.smv_command.specs.declared.exit.Status.TheVariants as status
use Rattle.smv_proof.specs.declared.proof.Proof.{Proof as Document}
use Rattle.smv_proof.specs.Documents.{line, document, Spells}
pub use Rattle.smv_proof.specs.Olds.{IsOld}
use Rattle.law_checked_proofs.specs.Kept.{IsProofOf}
use Rattle.law_checked_proofs.specs.Resumed.{IsResumedProof, IsResumedReport}
use Rattle.law_judgements.specs.Judgements.{IsFaultOf, Judgement, IsJudged}
use Rattle.law_judgements.specs.Judgements.Judgement.{yes, form, design, set}
use Rattle.law_document_answers.specs.Statuses.{status_of}

-- the most bytes that a document has where it is checked
abbrev pub check_limit : ℕ
check_limit = 67108864

-- the most bytes that an old document and a new design have together
abbrev pub resume_limit : ℕ
resume_limit = 69206016

-- bytes of another form, or whose old document is none
abbrev pub HasNoOld : List ℕ → Type 0
HasNoOld bytes = (old text : List ℕ) (proof : Document) → IsOld bytes old text → Spells old proof → ⊥

-- ---- what is written

-- the status of a judgement
abbrev pub status_by : Judgement → Status
status_by (yes n) = status.Checked
status_by form = status.Rejected
status_by (design number at) = status.Refused
status_by (set k) = status.Rejected

-- what is written of it; a fault of the design is written as that of a text
abbrev pub judged_text : Judgement → List ℕ
judged_text (yes n) = line (codes "checked" ∷ decimal n ∷ [])
judged_text form = line (codes "rejected" ∷ codes "form" ∷ [])
judged_text (design number at) = []
judged_text (set k) = line (codes "rejected" ∷ codes "set" ∷ decimal k ∷ [])

-- the design has a fault
abbrev pub is_of_design : Judgement → Bool
is_of_design (design number at) = true
is_of_design _ = false

-- The status and the whole answer, all of it over the declared bits. A report is due where a unit is not true, a fault of a design stands in the design, and a text that is too long comes before all else.
pub data IsDocumentDue : Command → List ℕ → Status → List ℕ → Type 0 where
  documented : {text : List ℕ} (budgets : Budgets) (proof : Document) → IsProofOf budgets.nodes budgets.steps text proof → IsDocumentDue (Proof budgets) text status.Documented (document proof)
  open_report : {text : List ℕ} (budgets : Budgets) (report : Report) → IsRightReport text Declared budgets.nodes budgets.steps report → status_of status.Documented report ≢ status.Documented →
      IsDocumentDue (Proof budgets) text (status_of status.Documented report) (report_lines report)
  refused_text : {text : List ℕ} (budgets : Budgets) (number at : ℕ) → IsFaultOf text number at → IsDocumentDue (Proof budgets) text status.Refused (fault_text text number at)
  too_long_to_check : {bytes : List ℕ} → check_limit < length bytes → IsDocumentDue Check bytes status.Refused (fault_text bytes 33 0)
  judged : {bytes : List ℕ} (j : Judgement) → length bytes ≤ check_limit → IsJudged bytes j → is_of_design j ≡ false → IsDocumentDue Check bytes (status_by j) (judged_text j)
  refused_design : {bytes : List ℕ} (proof : Document) (number at : ℕ) → length bytes ≤ check_limit → Spells bytes proof → IsFaultOf proof.design number at →
      IsDocumentDue Check bytes status.Refused (fault_text proof.design number at)
  too_long_to_resume : {bytes : List ℕ} (budgets : Budgets) → resume_limit < length bytes → IsDocumentDue (Resume budgets) bytes status.Refused (fault_text bytes 33 0)
  not_old : {bytes : List ℕ} (budgets : Budgets) → length bytes ≤ resume_limit → HasNoOld bytes → IsDocumentDue (Resume budgets) bytes status.Rejected (judged_text form)
  refused_new : {bytes : List ℕ} (budgets : Budgets) (old text : List ℕ) (proof : Document) (number at : ℕ) → length bytes ≤ resume_limit → IsOld bytes old text → Spells old proof → IsFaultOf text number at →
      IsDocumentDue (Resume budgets) bytes status.Refused (fault_text text number at)
  resumed : {bytes : List ℕ} (budgets : Budgets) (old text : List ℕ) (proof new : Document) → length bytes ≤ resume_limit → IsOld bytes old text → Spells old proof →
      IsResumedProof proof.sets budgets.nodes budgets.steps text new → IsDocumentDue (Resume budgets) bytes status.Resumed (document new)
  open_resumed : {bytes : List ℕ} (budgets : Budgets) (old text : List ℕ) (proof : Document) (report : Report) → length bytes ≤ resume_limit → IsOld bytes old text → Spells old proof →
      IsResumedReport proof.sets budgets.nodes budgets.steps text report → status_of status.Resumed report ≢ status.Resumed →
      IsDocumentDue (Resume budgets) bytes (status_of status.Resumed report) (report_lines report)
