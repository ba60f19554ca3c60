-- How a call ends, and what follows from it.
use Rattle.std.proofs.Common.{◌≡◌, ◌≢◌, ℕ, ◌+◌, ◌<◌, List, [], length, Bool, true, false, not, Option, Some, None, IfSome, ◌⊎◌, inl, inr, refl, sym, ap, ◌∙◌, subst, arith, true≢false}
use Rattle.std.specs.Prelude.{if◌then◌else◌}
use Rattle.std.proofs.Math.ListN.{replicate}
use Rattle.std.proofs.lemmas.List.{length-replicate}
use Rattle.std.specs.List.{list_any}
use Rattle.std.specs.Io.KnownBytes.{Appends}
use Rattle.smv_io.specs.Transfers.{TookFront}
use Rattle.smv_problem.specs.declared.report.Report.{Report}
use Rattle.smv_problem.specs.declared.report.Verdict.{Verdict}
use Rattle.smv_problem.specs.declared.report.Verdict.TheVariants as verdict
use Rattle.smv_command.specs.Ranges.{IsInRange}
use Rattle.smv_command.specs.declared.commands.Command.{Command}
use Rattle.smv_command.specs.declared.commands.Command.TheVariants.{Prove, Only, Print, Generated, Proof, Check, Resume, Confirm, Induct, Ltl}
use Rattle.smv_command.specs.declared.exit.Status.{Status}
use Rattle.smv_command.specs.declared.exit.Status.TheVariants.{AllProved, SomeFalse, SomeUnknown, Refused, Usage, ReadFault, WriteFault, OutOfMemory, PartProved, Printed as printed_out, Generated as all_generated, Documented, Checked, Rejected, Resumed as all_resumed, HoldsHere, Real, Inducted, AllFormulas}
use Rattle.smv_answers.specs.Reports.{IsSoundDesign}
use Rattle.law_judgements.specs.Judgements.{Judgement}
use Rattle.law_judgements.specs.Judgements.Judgement.{yes, form, design, set}
use Rattle.law_document_answers.specs.Dues.{IsDocumentDue, documented, open_report, refused_text, too_long_to_check, judged, refused_design, too_long_to_resume, not_old, refused_new, resumed, open_resumed, status_by}
use Rattle.law_induct_answers.proofs.Statuses.{of_statuses}
use Rattle.law_answers.proofs.Statuses.{of_ltl_statuses}
use Rattle.smv_answers.specs.Dues.{IsDue, IsDueTo, confirmed, decided, of_documents, of_formulas, of_induction, printed, refused, is_false, is_unknown, proved_by, status_of, Gave, Ends}
use Rattle.law_answers.specs.Confirmations.{confirmed_status}
use Rattle.smv_answers.specs.Laws.{AreSoundFormulas, CheckedDocumentIsSound, DocumentedTextIsSound, FormulaTextIsSound, HoldsAsAsked, HoldsHereIsSo, HoldsSound, InductedTextIsSound, OneStatus, ProvedIsSound, RealIsSo, RenewsSound, ResumedDocumentIsSound}
use Rattle.smv_top.specs.Clauses.{Completes, ShowsReal}

-- ---- what the source gave

pub longer : (n : ℕ) → (text : List ℕ) × (n < length text)
longer n = let e = length-replicate {A = ℕ} (n + 1) 0 in (replicate (n + 1) 0, omega (arith, e))

pub some_given : (left : Option (List ℕ)) → (text : List ℕ) × Gave left text
some_given None = ([], tt)
some_given (Some told) = (told, refl)

-- a fact of the bytes that are told, which also holds of some text
pub given : (left : Option (List ℕ)) (P : List ℕ → Type 0) → IfSome left P → (text : List ℕ) × P text → (text : List ℕ) × Gave left text × P text
given None P is some = (some.0, tt, some.1)
given (Some told) P is some = (told, refl, is)

-- a fact of what was given is one of the bytes that are told
pub of_told : (left : Option (List ℕ)) (P Q : List ℕ → Type 0) → (text : List ℕ) × Gave left text × P text → ((text : List ℕ) → P text → Q text) → IfSome left Q
of_told None P Q some all = tt
of_told (Some told) P Q some all = subst Q some.1 (all some.0 some.2)

-- ---- the answer was taken, or a front of it

-- a status under which an answer is written whole
abbrev pub is_answered : Status → Bool
is_answered ReadFault = false
is_answered WriteFault = false
is_answered OutOfMemory = false
is_answered _ = true

is_own : (command : Command) → is_answered (proved_by command) ≡ true
is_own (Prove bits budgets) = refl
is_own (Only name bits budgets) = refl
is_own Print = refl
is_own (Generated copies) = refl
is_own (Proof budgets) = refl
is_own Check = refl
is_own (Resume budgets) = refl
is_own (Confirm name sizes bits budgets) = refl
is_own (Induct name var budgets) = refl
is_own (Ltl bits budgets) = refl

-- the two statuses under which nothing is written
abbrev is_read : Status → Bool
is_read ReadFault = true
is_read _ = false

abbrev is_memory : Status → Bool
is_memory OutOfMemory = true
is_memory _ = false

of_report : (proved : Status) (report : Report) → is_answered proved ≡ true → is_answered (status_of proved report) ≡ true
of_report proved report own = by (list_any (λ u. is_false u.verdict) report.units) (list_any (λ u. is_unknown u.verdict) report.units)
  where
    by : (x y : Bool) → is_answered (if x then SomeFalse else (if y then SomeUnknown else proved)) ≡ true
    by true y = refl
    by false true = refl
    by false false = own

of_judgement : (j : Judgement) → is_answered (status_by j) ≡ true
of_judgement (yes n) = refl
of_judgement form = refl
of_judgement (design number at) = refl
of_judgement (set k) = refl

of_verdict : (verdict : Verdict) → is_answered (confirmed_status verdict) ≡ true
of_verdict verdict.True = refl
of_verdict (verdict.False case elements path) = refl
of_verdict (verdict.UnknownNodes case count) = refl
of_verdict (verdict.UnknownSteps case) = refl

of_document : (command : Command) (text : List ℕ) (due : Status) (answer : List ℕ) → IsDocumentDue command text due answer → is_answered due ≡ true
of_document _ text _ _ (documented budgets proof is) = refl
of_document _ text _ _ (open_report budgets report right some_not) = of_report Documented report refl
of_document _ text _ _ (refused_text budgets number at fault) = refl
of_document _ text _ _ (too_long_to_check long) = refl
of_document _ text _ _ (judged j within is not) = of_judgement j
of_document _ text _ _ (refused_design proof number at within spells fault) = refl
of_document _ text _ _ (too_long_to_resume budgets long) = refl
of_document _ text _ _ (not_old budgets within none) = refl
of_document _ text _ _ (refused_new budgets old new proof number at within is spells fault) = refl
of_document _ text _ _ (resumed budgets old new proof made within is spells is_new) = refl
of_document _ text _ _ (open_resumed budgets old new proof report within is spells told some_not) = of_report all_resumed report refl

not_false : (b : Bool) → not b ≡ false → b ≡ true
not_false true e = refl
not_false false e = absurd (true≢false e)

of_command : (command : Command) (text : List ℕ) (due : Status) (answer : List ℕ) → IsDue command text due answer → is_answered due ≡ true
of_command command text _ _ (decided report is) = of_report (proved_by command) report (is_own command)
of_command _ text _ _ (printed tree is) = refl
of_command command text _ _ (refused number at own fault) = refl
of_command command text due answer (of_documents is) = of_document command text due answer is
of_command _ text _ _ (confirmed name sizes bits budgets tree unit told valid called is) = of_verdict told
of_command _ text due answer (of_induction name var budgets is) = not_false (is_answered due) (of_statuses (λ s. not (is_answered s)) refl refl refl Inducted refl name var budgets text due answer is)
of_command _ text due answer (of_formulas bits budgets is) = not_false (is_answered due) (of_ltl_statuses (λ s. not (is_answered s)) refl refl refl AllFormulas refl bits budgets text due answer is)

-- a status under which no answer is written whole is never owed
pub owed_not : (command : Command) (text : List ℕ) (due : Status) (answer : List ℕ) (other : Status) → IsDue command text due answer → is_answered other ≡ false → due ≢ other
owed_not command text due answer other is never e = true≢false (sym (of_command command text due answer is) ∙ (ap is_answered e ∙ never))

-- nor is it answered, where what is owed was written, or was not for a fault of the sink
pub never_unwritten : (command : Command) (text : List ℕ) (due : Status) (answer : List ℕ) (r : Status) → IsDue command text due answer → (r ≡ due) ⊎ (r ≡ WriteFault) → (r ≡ ReadFault) ⊎ (r ≡ OutOfMemory) → ⊥
never_unwritten command text due answer r is (inl e) (inl f) = owed_not command text due answer ReadFault is refl (sym e ∙ f)
never_unwritten command text due answer r is (inl e) (inr f) = owed_not command text due answer OutOfMemory is refl (sym e ∙ f)
never_unwritten command text due answer r is (inr e) (inl f) = true≢false (ap is_read (sym f ∙ e))
never_unwritten command text due answer r is (inr e) (inr f) = true≢false (ap is_memory (sym f ∙ e))

answers : (command : Option Command) (text : List ℕ) (due : Status) (answer : List ℕ) → IsDueTo command text due answer → is_answered due ≡ true
answers None text due answer is = ap is_answered is.0
answers (Some command) text due answer is = of_command command _ due answer is

pub no_write_fault : (command : Option Command) (text : List ℕ) (due : Status) (answer : List ℕ) → IsDueTo command text due answer → due ≢ WriteFault
no_write_fault command text due answer is e = true≢false (sym (answers command text due answer is) ∙ ap is_answered e)

pub finished : (status r : Status) (command : Option Command) (text answer : List ℕ) (old new : Option (List ℕ)) → IsDueTo command text status answer →
    (r ≡ status → Appends old new answer) → (r ≡ WriteFault → TookFront old new answer) → (r ≡ status) ⊎ (r ≡ WriteFault) → Ends r command text old new
finished status r command text answer old new due taken front (inr e) = rw e (status, answer, due, front e)
finished status r command text answer old new due taken front (inl e) = rw e (whole status (answers command text status answer due) due (taken e))
  where
    whole : (status : Status) → is_answered status ≡ true → IsDueTo command text status answer → Appends old new answer → Ends status command text old new
    whole AllProved is due all = (answer, due, all)
    whole SomeFalse is due all = (answer, due, all)
    whole SomeUnknown is due all = (answer, due, all)
    whole Refused is due all = (answer, due, all)
    whole Usage is due all = (answer, due, all)
    whole PartProved is due all = (answer, due, all)
    whole printed_out is due all = (answer, due, all)
    whole all_generated is due all = (answer, due, all)
    whole Documented is due all = (answer, due, all)
    whole Checked is due all = (answer, due, all)
    whole Rejected is due all = (answer, due, all)
    whole all_resumed is due all = (answer, due, all)
    whole HoldsHere is due all = (answer, due, all)
    whole Real is due all = (answer, due, all)
    whole Inducted is due all = (answer, due, all)
    whole AllFormulas is due all = (answer, due, all)
    whole ReadFault is due all = absurd (true≢false (sym is))
    whole WriteFault is due all = absurd (true≢false (sym is))
    whole OutOfMemory is due all = absurd (true≢false (sym is))

-- ---- what the endings say together

pub all_proved_is_sound : ProvedIsSound → (r : Status) (command : Option Command) (text : List ℕ) (old new : Option (List ℕ)) → r ≡ AllProved → Ends r command text old new → IsSoundDesign text
all_proved_is_sound law r command text old new is ends =
    let e : Ends AllProved command text old new = subst (λ s. Ends s command text old new) is ends in
    law command text e.0 e.1

pub documented_is_sound : DocumentedTextIsSound → (r : Status) (command : Option Command) (text : List ℕ) (old new : Option (List ℕ)) → r ≡ Documented → Ends r command text old new → IsSoundDesign text
documented_is_sound law r command text old new is ends =
    let e : Ends Documented command text old new = subst (λ s. Ends s command text old new) is ends in
    law command text e.0 e.1

pub checked_holds_sound : CheckedDocumentIsSound → (r : Status) (command : Option Command) (text : List ℕ) (old new : Option (List ℕ)) → r ≡ Checked → Ends r command text old new → HoldsSound text
checked_holds_sound law r command text old new is ends =
    let e : Ends Checked command text old new = subst (λ s. Ends s command text old new) is ends in
    law command text e.0 e.1

pub resumed_renews_sound : ResumedDocumentIsSound → (r : Status) (command : Option Command) (text : List ℕ) (old new : Option (List ℕ)) → r ≡ all_resumed → Ends r command text old new → RenewsSound text
resumed_renews_sound law r command text old new is ends =
    let e : Ends all_resumed command text old new = subst (λ s. Ends s command text old new) is ends in
    law command text e.0 e.1

pub inducted_is_sound : InductedTextIsSound → (r : Status) (command : Option Command) (text : List ℕ) (old new : Option (List ℕ)) → r ≡ Inducted → Ends r command text old new → IsSoundDesign text
inducted_is_sound law r command text old new is ends =
    let e : Ends Inducted command text old new = subst (λ s. Ends s command text old new) is ends in
    law command text e.0 e.1

pub formulas_are_sound : FormulaTextIsSound → (r : Status) (command : Option Command) (text : List ℕ) (old new : Option (List ℕ)) → r ≡ AllFormulas → Ends r command text old new → AreSoundFormulas text
formulas_are_sound law r command text old new is ends =
    let e : Ends AllFormulas command text old new = subst (λ s. Ends s command text old new) is ends in
    law command text e.0 e.1

pub holds_as_asked : HoldsHereIsSo → (r : Status) (command : Option Command) (text : List ℕ) (old new : Option (List ℕ)) → IfSome command IsInRange → r ≡ HoldsHere → Ends r command text old new → HoldsAsAsked command text
holds_as_asked law r command text old new ranged is ends =
    let e : Ends HoldsHere command text old new = subst (λ s. Ends s command text old new) is ends in
    law command text e.0 ranged e.1

pub real_as_asked : RealIsSo → (r : Status) (command : Option Command) (text : List ℕ) (old new : Option (List ℕ)) → IfSome command IsInRange → r ≡ Real → Ends r command text old new → ShowsReal command old new text
real_as_asked law r command text old new ranged is ends =
    let e : Ends Real command text old new = subst (λ s. Ends s command text old new) is ends in
    (e.0, law command text e.0 ranged e.1, e.2)

-- the numbers of the command that words are, where they are one
pub ranged : (o : Option Command) → ((command : Command) → o ≡ Some command → IsInRange command) → IfSome o IsInRange
ranged None all = tt
ranged (Some command) all = all command refl

module _ (one : OneStatus) (command : Option Command) (text : List ℕ) (old new : Option (List ℕ)) where
  pub completed : (r : Status) → r ≢ ReadFault → r ≢ WriteFault → Ends r command text old new → Completes r command text
  completed AllProved no_read no_write e due answer is p q = inl (one command text AllProved due e.0 answer e.1 is p q)
  completed SomeFalse no_read no_write e due answer is p q = inl (one command text SomeFalse due e.0 answer e.1 is p q)
  completed SomeUnknown no_read no_write e due answer is p q = inl (one command text SomeUnknown due e.0 answer e.1 is p q)
  completed Refused no_read no_write e due answer is p q = inl (one command text Refused due e.0 answer e.1 is p q)
  completed Usage no_read no_write e due answer is p q = inl (one command text Usage due e.0 answer e.1 is p q)
  completed PartProved no_read no_write e due answer is p q = inl (one command text PartProved due e.0 answer e.1 is p q)
  completed printed_out no_read no_write e due answer is p q = inl (one command text printed_out due e.0 answer e.1 is p q)
  completed all_generated no_read no_write e due answer is p q = inl (one command text all_generated due e.0 answer e.1 is p q)
  completed Documented no_read no_write e due answer is p q = inl (one command text Documented due e.0 answer e.1 is p q)
  completed Checked no_read no_write e due answer is p q = inl (one command text Checked due e.0 answer e.1 is p q)
  completed Rejected no_read no_write e due answer is p q = inl (one command text Rejected due e.0 answer e.1 is p q)
  completed all_resumed no_read no_write e due answer is p q = inl (one command text all_resumed due e.0 answer e.1 is p q)
  completed HoldsHere no_read no_write e due answer is p q = inl (one command text HoldsHere due e.0 answer e.1 is p q)
  completed Real no_read no_write e due answer is p q = inl (one command text Real due e.0 answer e.1 is p q)
  completed Inducted no_read no_write e due answer is p q = inl (one command text Inducted due e.0 answer e.1 is p q)
  completed AllFormulas no_read no_write e due answer is p q = inl (one command text AllFormulas due e.0 answer e.1 is p q)
  completed ReadFault no_read no_write e due answer is p q = absurd (no_read refl)
  completed WriteFault no_read no_write e due answer is p q = absurd (no_write refl)
  completed OutOfMemory no_read no_write e due answer is p q = inr refl
