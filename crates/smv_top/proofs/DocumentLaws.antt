-- What is due to the commands on proof documents, by what was found.
use Rattle.std.proofs.Common.{◌≡◌, ◌∙◌, ◌≤◌, ◌<◌, ℕ, Bool, List, length, true, false, Option, Some, IfSome, Result, refl, sym, ap, subst, true≢false}
use Rattle.std.specs.Prelude.{◌≢◌, if◌then◌else◌}
use Rattle.std.specs.List.{list_any}
use Rattle.smv_report.specs.Lines.{fault_text}
use Rattle.smv_core.specs.declared.fault.Fault.{Fault}
use Rattle.smv_bits.specs.declared.Bits.TheVariants.{Declared}
use Rattle.smv_problem.specs.declared.report.Budgets.{Budgets}
use Rattle.smv_problem.specs.declared.report.Report.{Report}
use Rattle.smv_command.specs.declared.commands.Command.{Command}
use Rattle.smv_command.specs.declared.commands.Command.TheVariants.{Prove, Proof, Check, Resume}
use Rattle.smv_command.specs.declared.exit.Status.{Status}
use Rattle.smv_command.specs.declared.exit.Status.TheVariants as status
use Rattle.smv_proof.specs.declared.proof.Proof.{Proof as Document}
use Rattle.smv_proof.specs.Documents.{document, Spells, SpellsNone}
use Rattle.smv_proof.specs.Laws.{OneProof}
use Rattle.law_reports.specs.Reports.{AllTrueUnits}
use Rattle.law_document_answers.proofs.Old.{one_old}
use Rattle.law_document_answers.proofs.Statuses.{true_units}
use Rattle.smv_check.specs.declared.errors.CheckError.{CheckError}
use Rattle.smv_check.specs.Answers.{judgement_of}
use Rattle.smv_answers.specs.Reports.{IsRightReport}
use Rattle.law_checked_proofs.specs.Kept.{IsProofOf}
use Rattle.law_checked_proofs.specs.Resumed.{IsResumedProof, IsResumedReport}
use Rattle.law_judgements.specs.Judgements.{IsFaultOf, IsJudged, Judgement, has_fault}
use Rattle.law_judgements.specs.Judgements as judgements
use Rattle.law_judgements.specs.Judgements.Judgement.{form, design}
use Rattle.law_document_answers.specs.Dues.{IsOld, HasNoOld, check_limit, resume_limit, documented, open_report, refused_text, too_long_to_check, judged, refused_design, too_long_to_resume, not_old, refused_new, resumed, open_resumed, status_by, judged_text, is_of_design}
use Rattle.smv_answers.specs.Dues as dues
use Rattle.smv_answers.specs.Dues.{IsDue, IsFault, decides, of_documents, is_false, is_unknown, lines_for, status_of}

module _ (budgets : Budgets) (text : List ℕ) (due : Status) (answer : List ℕ) where
  pub due_documented : (proof : Document) → IsProofOf budgets.nodes budgets.steps text proof → due ≡ status.Documented → answer ≡ document proof → IsDue (Proof budgets) text due answer
  due_documented proof is e f = rw e (rw f (of_documents (documented budgets proof is)))

  pub due_open : (report : Report) → IsRightReport text Declared budgets.nodes budgets.steps report → status_of status.Documented report ≢ status.Documented → due ≡ status_of status.Documented report → answer ≡ lines_for (Proof budgets) report →
      IsDue (Proof budgets) text due answer
  due_open report is some_not e f = rw e (rw f (of_documents (open_report budgets report is some_not)))

  pub due_refused_text : (number at : ℕ) → IsFaultOf text number at → due ≡ status.Refused → answer ≡ fault_text text number at → IsDue (Proof budgets) text due answer
  due_refused_text number at fault e f = rw e (rw f (of_documents (refused_text budgets number at fault)))

module _ (bytes : List ℕ) (due : Status) (answer : List ℕ) where
  pub due_too_long_to_check : check_limit < length bytes → due ≡ status.Refused → answer ≡ fault_text bytes 33 0 → IsDue Check bytes due answer
  due_too_long_to_check long e f = rw e (rw f (of_documents (too_long_to_check long)))

  pub due_judged : (j : Judgement) → length bytes ≤ check_limit → IsJudged bytes j → is_of_design j ≡ false → due ≡ status_by j → answer ≡ judged_text j → IsDue Check bytes due answer
  due_judged j within is not e f = rw e (rw f (of_documents (judged j within is not)))

  pub due_refused_design : (proof : Document) (number at : ℕ) → length bytes ≤ check_limit → Spells bytes proof → IsFaultOf proof.design number at → due ≡ status.Refused → answer ≡ fault_text proof.design number at →
      IsDue Check bytes due answer
  due_refused_design proof number at within spells fault e f = rw e (rw f (of_documents (refused_design proof number at within spells fault)))

  -- the same, where the design is that of equal bytes
  pub due_refused_bytes : (proof : Document) (held : List ℕ) (number at : ℕ) → length bytes ≤ check_limit → Spells bytes proof → IsFaultOf proof.design number at → held ≡ proof.design → due ≡ status.Refused →
      answer ≡ fault_text held number at → IsDue Check bytes due answer
  due_refused_bytes proof held number at within spells fault same e f = due_refused_design proof number at within spells fault e (subst (λ (d : List ℕ). answer ≡ fault_text d number at) same f)

module _ (budgets : Budgets) (bytes : List ℕ) (due : Status) (answer : List ℕ) where
  pub due_too_long_to_resume : resume_limit < length bytes → due ≡ status.Refused → answer ≡ fault_text bytes 33 0 → IsDue (Resume budgets) bytes due answer
  due_too_long_to_resume long e f = rw e (rw f (of_documents (too_long_to_resume budgets long)))

  pub due_not_old : length bytes ≤ resume_limit → HasNoOld bytes → due ≡ status_by form → answer ≡ judged_text form → IsDue (Resume budgets) bytes due answer
  due_not_old within none e f = rw e (rw f (of_documents (not_old budgets within none)))

  pub due_refused_new : (old text : List ℕ) (proof : Document) (number at : ℕ) → length bytes ≤ resume_limit → IsOld bytes old text → Spells old proof → IsFaultOf text number at → due ≡ status.Refused → answer ≡ fault_text text number at →
      IsDue (Resume budgets) bytes due answer
  due_refused_new old text proof number at within is spells fault e f = rw e (rw f (of_documents (refused_new budgets old text proof number at within is spells fault)))

  pub due_resumed : (old text : List ℕ) (proof new : Document) → length bytes ≤ resume_limit → IsOld bytes old text → Spells old proof → IsResumedProof proof.sets budgets.nodes budgets.steps text new → due ≡ status.Resumed →
      answer ≡ document new → IsDue (Resume budgets) bytes due answer
  due_resumed old text proof new within is spells is_new e f = rw e (rw f (of_documents (resumed budgets old text proof new within is spells is_new)))

  pub due_open_resumed : (old text : List ℕ) (proof : Document) (report : Report) → length bytes ≤ resume_limit → IsOld bytes old text → Spells old proof → IsResumedReport proof.sets budgets.nodes budgets.steps text report →
      status_of status.Resumed report ≢ status.Resumed → due ≡ status_of status.Resumed report → answer ≡ lines_for (Resume budgets) report → IsDue (Resume budgets) bytes due answer
  due_open_resumed old text proof report within is spells told some_not e f = rw e (rw f (of_documents (open_resumed budgets old text proof report within is spells told some_not)))

-- ---- what is kept, what is some_not

-- a report of which not each unit is true has not the status of one of which each is
open_status : (proved : Status) (report : Report) → proved ≢ status.SomeFalse → proved ≢ status.SomeUnknown → (AllTrueUnits report.units → ⊥) → status_of proved report ≢ proved
open_status proved report no_false no_unknown not = by (list_any (λ u. is_false u.verdict) report.units) refl (list_any (λ u. is_unknown u.verdict) report.units) refl
  where
    by : (x : Bool) → list_any (λ u. is_false u.verdict) report.units ≡ x → (y : Bool) → list_any (λ u. is_unknown u.verdict) report.units ≡ y →
        (if x then status.SomeFalse else (if y then status.SomeUnknown else proved)) ≢ proved
    by true fx y fy e = no_false (sym e)
    by false fx true fy e = no_unknown (sym e)
    by false fx false fy e = not (true_units report.units fx fy)

pub open_documented : (report : Report) → (AllTrueUnits report.units → ⊥) → status_of status.Documented report ≢ status.Documented
open_documented report not = open_status status.Documented report (λ e. let bad : ⊥ = cc (e) in bad) (λ e. let bad : ⊥ = cc (e) in bad) not

pub open_resumed_status : (report : Report) → (AllTrueUnits report.units → ⊥) → status_of status.Resumed report ≢ status.Resumed
open_resumed_status report not = open_status status.Resumed report (λ e. let bad : ⊥ = cc (e) in bad) (λ e. let bad : ⊥ = cc (e) in bad) not

-- ---- what is judged

-- the answer of the check, in terms of the bytes
pub judged_is : (bytes : List ℕ) (proof : Document) (result answer : Result ℕ CheckError) (j : Judgement) → Spells bytes proof → IfSome (judgement_of result) (IsJudged (document proof)) → result ≡ answer → judgement_of answer ≡ Some j → IsJudged bytes j
judged_is bytes proof result answer j spelled is same gives =
    subst (λ (bs : List ℕ). IsJudged bs j) (sym spelled.1) (subst (λ (o : Option Judgement). IfSome o (IsJudged (document proof))) (ap judgement_of same ∙ gives) is)

-- the fault of a design that is judged is the fault of the design that the bytes hold
pub design_fault : OneProof → (bytes : List ℕ) (proof : Document) (number at : ℕ) → Spells bytes proof → IsJudged bytes (design number at) → IsFaultOf proof.design number at
design_fault one bytes proof number at spelled (has_fault other _ _ spelled_too fault) = subst (λ (p : Document). IsFaultOf p.design number at) (one bytes other proof spelled_too spelled) fault

-- bytes that hold no document before a design
pub no_old : (bytes old text : List ℕ) → IsOld bytes old text → SpellsNone old → HasNoOld bytes
no_old bytes old text is none other new proof is_too spells = none_at other (one_old bytes other new old text is_too is).0 proof spells
  where
    none_at : (other : List ℕ) → other ≡ old → (proof : Document) → Spells other proof → ⊥
    none_at other same proof spells = none proof (subst (λ (bs : List ℕ). Spells bs proof) same spells)

-- ---- the fault of a text

abbrev is_prove : Command → Bool
is_prove (Prove bits budgets) = true
is_prove _ = false

fault_judged : (command : Command) (text : List ℕ) (number at : ℕ) → is_prove command ≡ true → IsFault command text number at → IsFaultOf text number at
fault_judged command text _ _ e (dues.too_long long) = judgements.too_long long
fault_judged command text _ _ e (dues.malformed number at within fault) = judgements.malformed number at within fault
fault_judged command text _ _ e (dues.faulty tree fault deciding is found) = judgements.faulty tree fault is found
fault_judged _ text _ _ e (dues.unnamed name bits nodes steps none) = absurd (true≢false (sym e))
fault_judged _ text _ _ e (dues.of_unit name sizes bits budgets number at is) = absurd (true≢false (sym e))

pub text_fault : (text : List ℕ) (fault : Fault) → ((command : Command) → decides command ≡ true → IsFault command text fault.number fault.at) → IsFaultOf text fault.number fault.at
text_fault text fault is = fault_judged (Prove Declared (record { nodes = 1; steps = 1 })) text fault.number fault.at refl (is (Prove Declared (record { nodes = 1; steps = 1 })) refl)
