-- The first fault of a text under a command stands within the text, and a refusal tells it.
use Rattle.std.proofs.Common.{◌≡◌, ℕ, Bool, true, false, cond, List, length, Option, Some, IfSome, refl, subst, sym, true≢false, ◌∙◌, ◌⊎◌, inl, inr, arith}
use Rattle.std.specs.List.{list_any}
use Rattle.smv_core.specs.declared.fault.Fault.{Fault}
use Rattle.smv_problem.specs.declared.report.UnitResult.{UnitResult}
use Rattle.smv_problem.specs.declared.report.Verdict.{Verdict}
use Rattle.smv_problem.specs.declared.report.Verdict.TheVariants as verdict
use Rattle.smv_problem.specs.declared.report.Report.{Report}
use Rattle.smv_parse.specs.Laws.{IsWithin}
use Rattle.smv_report.specs.Lines.{fault_text}
use Rattle.smv_command.specs.declared.commands.Command.{Command}
use Rattle.smv_command.specs.declared.commands.Command.TheVariants.{Prove, Only, Print, Generated, Proof, Check, Resume, Confirm, Induct, Ltl}
use Rattle.smv_command.specs.declared.exit.Status.{Status}
use Rattle.smv_command.specs.declared.exit.Status.TheVariants as status
use Rattle.law_valid_texts.specs.Faults.{pass_fault}
use Rattle.law_judgements.specs.Judgements.{IsFaultOf, Judgement}
use Rattle.law_judgements.specs.Judgements as judgement
use Rattle.law_judgements.specs.Judgements.Judgement.{yes, form, design, set}
use Rattle.law_document_answers.specs.Dues.{documented, open_report, refused_text, too_long_to_check, judged, refused_design, too_long_to_resume, not_old, refused_new, resumed, open_resumed, status_by, is_of_design}
use Rattle.law_answers.proofs.Answers.{of_ones}
use Rattle.law_answers.specs.Confirmations.{confirmed_status}
use Rattle.smv_bits.specs.declared.Bits.TheVariants.{Declared}
use Rattle.law_answers.specs.Dues.{IsFault, too_long, malformed, faulty, unnamed, of_unit, IsDue, IsDocumentDue, confirmed, decided, is_of_own, of_documents, of_formulas, of_induction, printed, refused, status_of, proved_by, is_false, is_unknown}
use Rattle.law_fault_places.specs.PassFaults.{IsFaultWithin, PassFaultsAreWithin}
use Rattle.law_fault_places.specs.FlatPlaces.{DesignsAreWithin, FlattenedTextsAreWithin}
use Rattle.law_fault_places.specs.FaultsOfTexts.{IsFaultUnder, TreesOfTextsAreWithin, FaultsAreWithin}
use Rattle.law_fault_places.proofs.SizeFaults.{unit-fault-within}

found-within : (n : ℕ) (o : Option Fault) (fault : Fault) → o ≡ Some fault → IfSome o (λ (f : Fault). IsFaultWithin n f.number f.at) → IsFaultWithin n fault.number fault.at
found-within n o fault e h = subst (λ (p : Option Fault). IfSome p (λ (f : Fault). IsFaultWithin n f.number f.at)) e h

-- a fault of the passes is one under each command
under : (command : Command) (n number at : ℕ) → IsFaultWithin n number at → IsFaultUnder command n number at
under (Prove bits budgets) n number at is = is
under (Only name bits budgets) n number at is = is
under Print n number at is = is
under (Generated copies) n number at is = is
under (Proof budgets) n number at is = is
under Check n number at is = is
under (Resume budgets) n number at is = is
under (Confirm name sizes bits budgets) n number at is = inl is
under (Induct name var budgets) n number at is = is
under (Ltl bits budgets) n number at is = inl is

module _ (form : IsWithin) (trees : TreesOfTextsAreWithin) (passes : PassFaultsAreWithin) (flat : FlattenedTextsAreWithin) (designs : DesignsAreWithin) where
  pub fault-within : (command : Command) (text : List ℕ) (number at : ℕ) → IsFault command text number at → IsFaultUnder command (length text) number at
  fault-within command text _ _ (too_long long) = under command (length text) 31 0 (record { lowest = omega arith; highest = omega arith; place = omega arith })
  fault-within command text _ _ (malformed number at short has) =
      let w = form text number at has in
      under command (length text) number at (record { lowest = w.0; highest = (let le = w.1 in omega (arith, le)); place = w.2 })
  fault-within command text _ _ (faulty tree fault asks is found) =
      under command (length text) fault.number fault.at (found-within (length text) (pass_fault tree) fault found (passes (length text) tree (trees text tree is.spelled)))
  fault-within _ text _ _ (unnamed name bits nodes steps none) = record { lowest = omega arith; highest = omega arith; place = omega arith }
  fault-within _ text _ _ (of_unit name sizes bits budgets number at fault) = unit-fault-within trees flat designs text name sizes number at fault

abbrev pub is_refused : Status → Bool
is_refused status.Refused = true
is_refused _ = false

proved-not : (command : Command) → is_refused (proved_by command) ≡ false
proved-not (Prove bits budgets) = refl
proved-not (Only name bits budgets) = refl
proved-not Print = refl
proved-not (Generated copies) = refl
proved-not (Proof budgets) = refl
proved-not Check = refl
proved-not (Resume budgets) = refl
proved-not (Confirm name sizes bits budgets) = refl
proved-not (Induct name var budgets) = refl
proved-not (Ltl bits budgets) = refl

decided-not : (command : Command) (report : Report) → is_refused (status_of (proved_by command) report) ≡ false
decided-not command report = by (list_any (λ (u : UnitResult). is_false u.verdict) report.units) (list_any (λ (u : UnitResult). is_unknown u.verdict) report.units)
  where
    by : (b c : Bool) → is_refused (cond b status.SomeFalse (cond c status.SomeUnknown (proved_by command))) ≡ false
    by true c = refl
    by false true = refl
    by false false = proved-not command

-- what a refusal tells
confirmed-not : (v : Verdict) → is_refused (confirmed_status v) ≡ false
confirmed-not verdict.True = refl
confirmed-not (verdict.False case elements path) = refl
confirmed-not (verdict.UnknownNodes case count) = refl
confirmed-not (verdict.UnknownSteps case) = refl

abbrev Tells : Command → List ℕ → List ℕ → Type 0
Tells command text answer = (number : ℕ) × (at : ℕ) × IsFault command text number at × IsFaultUnder command (length text) number at × (answer ≡ fault_text text number at)

pub refusal-tells : FaultsAreWithin → (command : Command) (text : List ℕ) (due : Status) (answer : List ℕ) → is_of_own command ≡ false → IsDue command text due answer → is_refused due ≡ true → Tells command text answer
refusal-tells within command text _ _ own (decided report h) e = absurd (true≢false (sym e ∙ decided-not command report))
refusal-tells within _ text _ _ own (printed tree h) e = absurd (true≢false (sym e))
refusal-tells within command text _ _ own (refused number at other h) e = (number, at, h, within command text number at h, refl)
refusal-tells within _ text _ _ own (confirmed name sizes bits budgets tree unit v valid called h) e = absurd (true≢false (sym e ∙ confirmed-not v))
refusal-tells within _ text due answer own (of_induction name var budgets h) e = absurd (true≢false own)
refusal-tells within _ text due answer own (of_formulas bits budgets h) e = absurd (true≢false own)
refusal-tells within command text due answer own (of_documents h) e = absurd (true≢false (sym (of_ones command text due answer h) ∙ own))

-- ---- of documents

-- the first fault of a design is that of its text under a command that decides
pub as-fault : (text : List ℕ) (number at : ℕ) → IsFaultOf text number at → IsFault (Prove Declared (record { nodes = 1; steps = 1 })) text number at
as-fault text _ _ (judgement.too_long long) = too_long long
as-fault text _ _ (judgement.malformed number at short has) = malformed number at short has
as-fault text _ _ (judgement.faulty tree fault is found) = faulty tree fault refl is found

abbrev TellsDesign : List ℕ → Type 0
TellsDesign answer = (text : List ℕ) × (number : ℕ) × (at : ℕ) × IsFaultOf text number at × IsFaultWithin (length text) number at × (answer ≡ fault_text text number at)

of-design : FaultsAreWithin → (text : List ℕ) (number at : ℕ) → IsFaultOf text number at → TellsDesign (fault_text text number at)
of-design within text number at fault = (text, number, at, fault, within (Prove Declared (record { nodes = 1; steps = 1 })) text number at (as-fault text number at fault), refl)

pub open-not : (proved : Status) (report : Report) → is_refused proved ≡ false → is_refused (status_of proved report) ≡ false
open-not proved report not = by (list_any (λ (u : UnitResult). is_false u.verdict) report.units) (list_any (λ (u : UnitResult). is_unknown u.verdict) report.units)
  where
    by : (b c : Bool) → is_refused (cond b status.SomeFalse (cond c status.SomeUnknown proved)) ≡ false
    by true c = refl
    by false true = refl
    by false false = not

judged-not : (j : Judgement) → is_of_design j ≡ false → is_refused (status_by j) ≡ false
judged-not (yes n) not = refl
judged-not form not = refl
judged-not (design number at) not = absurd (true≢false not)
judged-not (set k) not = refl

pub document-refusal-tells : FaultsAreWithin → (command : Command) (bytes : List ℕ) (due : Status) (answer : List ℕ) → IsDocumentDue command bytes due answer → is_refused due ≡ true →
    TellsDesign answer ⊎ (answer ≡ fault_text bytes 33 0)
document-refusal-tells within _ bytes _ _ (documented budgets proof is) e = absurd (true≢false (sym e))
document-refusal-tells within _ bytes _ _ (open_report budgets report right unproved) e = absurd (true≢false (sym e ∙ open-not status.Documented report refl))
document-refusal-tells within _ bytes _ _ (refused_text budgets number at fault) e = inl (of-design within bytes number at fault)
document-refusal-tells within _ bytes _ _ (too_long_to_check long) e = inr refl
document-refusal-tells within _ bytes _ _ (judged j short is not) e = absurd (true≢false (sym e ∙ judged-not j not))
document-refusal-tells within _ bytes _ _ (refused_design proof number at short spells fault) e = inl (of-design within proof.design number at fault)
document-refusal-tells within _ bytes _ _ (too_long_to_resume budgets long) e = inr refl
document-refusal-tells within _ bytes _ _ (not_old budgets short none) e = absurd (true≢false (sym e))
document-refusal-tells within _ bytes _ _ (refused_new budgets old text proof number at short is spells fault) e = inl (of-design within text number at fault)
document-refusal-tells within _ bytes _ _ (resumed budgets old text proof new short is spells is_new) e = absurd (true≢false (sym e))
document-refusal-tells within _ bytes _ _ (open_resumed budgets old text proof report short is spells told unproved) e = absurd (true≢false (sym e ∙ open-not status.Resumed report refl))
