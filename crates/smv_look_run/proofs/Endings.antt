-- How a call ends.
use Rattle.std.proofs.Common.{◌≡◌, ◌≢◌, ◌∙◌, ℕ, ◌+◌, ◌<◌, List, [], ◌∷◌, ◌++◌, length, Bool, true, false, Option, Some, None, IfSome, ◌⊎◌, inl, inr, refl, sym, ap, subst, arith, true≢false, codes, Result, Ok, Err, IfOk}
use Rattle.std.proofs.Math.ListN.{replicate}
use Rattle.std.proofs.lemmas.List.{length-replicate}
use Rattle.std.specs.Fmt.{digits}
use Rattle.std.specs.Io.KnownBytes.{Appends}
use Rattle.smv_io.specs.Transfers.{TookFront}
use Rattle.smv_core.specs.declared.fault.Fault.{Fault}
use Rattle.smv_core.specs.declared.flat.Class.{Class}
use Rattle.smv_report.specs.Lines.{fault_text}
use Rattle.smv_command.specs.declared.commands.Command.{Command}
use Rattle.law_answers.specs.Dues.{limit, too_long}
use Rattle.smv_look_command.specs.declared.queries.Query.{Query}
use Rattle.smv_look_lint.specs.Lines.{lint_lines}
use Rattle.smv_look_reports.specs.Explained.{are_all_true}
use Rattle.smv_look_explain.specs.Faults.{unshown_lines}
use Rattle.smv_look_faults.specs.Explained.{IsExplained, unshown}
use Rattle.smv_look_run.specs.declared.Status.{Status}
use Rattle.smv_look_run.specs.declared.Status.TheVariants.{Written, Warned, NoCase, SomeFalse, SomeUnknown, Refused, Usage, ReadFault, WriteFault, OutOfMemory}
use Rattle.smv_problem.specs.declared.report.Verdict.{Verdict}
use Rattle.smv_problem.specs.declared.report.Verdict.TheVariants.{True, False, UnknownNodes, UnknownSteps}
use Rattle.smv_look_sets.specs.declared.sought.Sought.{Sought}
use Rattle.smv_look_sets.specs.declared.sought.Sought.TheVariants as found
use Rattle.smv_look_run.specs.Cases.{IsShownAt, cone_status}
use Rattle.smv_look_aiger.specs.declared.models.Model.{Model}
use Rattle.smv_look_aiger.specs.declared.models.Model.TheVariants as model
use Rattle.smv_look_run.specs.Models.{model_status}
use Rattle.smv_look_run.specs.Sets.{AreSetsAt, sought_status, verdict_status}
use Rattle.smv_look_run.specs.Dues.{Ends, Gave, IsDue, IsDueTo, IsFault, IsRefusal, faulty, fronted, lint_status, linted, listed, modelled, refused, report_status, reported, shown, sought, usage_line}

-- ---- what the source gave

pub longer : (n : ℕ) → (text : List ℕ) × (n < length text)
longer n = let e = length-replicate {A = ℕ} (n + 1) 0 in (replicate (n + 1) 0, omega (arith, e))

pub some_given : (left : Option (List ℕ)) → (text : List ℕ) × Gave left text
some_given None = ([], tt)
some_given (Some told) = (told, refl)

-- a fact of the bytes that are told, which also holds of some text
pub given : (left : Option (List ℕ)) (P : List ℕ → Type 0) → IfSome left P → (text : List ℕ) × P text → (text : List ℕ) × Gave left text × P text
given None P is some = (some.0, tt, some.1)
given (Some told) P is some = (told, refl, is)

-- ---- the answer was taken, or a front of it

-- a status under which an answer is written whole
abbrev is_answered : Status → Bool
is_answered ReadFault = false
is_answered WriteFault = false
is_answered OutOfMemory = false
is_answered _ = true

of_case : (found : Option (List Class)) → is_answered (cone_status found) ≡ true
of_case (Some classes) = refl
of_case None = refl

of_lint : (lines : List ℕ) → is_answered (lint_status lines) ≡ true
of_lint [] = refl
of_lint (byte ∷ lines) = refl

of_report : (are_true : Bool) → is_answered (report_status are_true) ≡ true
of_report true = refl
of_report false = refl

of_verdict : (verdict : Verdict) → is_answered (verdict_status verdict) ≡ true
of_verdict True = refl
of_verdict (False case elements path) = refl
of_verdict (UnknownNodes case count) = refl
of_verdict (UnknownSteps case) = refl

of_sought : (sought : Sought) → is_answered (sought_status sought) ≡ true
of_sought (found.Sets sets) = refl
of_sought (found.Open verdict) = of_verdict verdict
of_sought (found.NoCase count) = refl

of_model : (model : Model) → is_answered (model_status model) ≡ true
of_model (model.File bytes) = refl
of_model (model.NoCase count) = refl

of_query : (asked : Query) (text : List ℕ) (due : Status) (answer : List ℕ) → IsDue asked text due answer → is_answered due ≡ true
of_query _ text _ _ (listed plan has) = refl
of_query _ text _ _ (shown name number plan u has first at) = ap is_answered at.status ∙ of_case _
of_query _ text _ _ (linted tree plan spelled has) = of_lint (lint_lines text tree plan)
of_query _ text _ _ (reported plan report allowed has right each) = of_report (are_all_true report.units)
of_query _ text _ _ (sought name case budgets plan u has first at) = ap is_answered at.status ∙ of_sought at.sought
of_query _ text _ _ (fronted plan has) = refl
of_query _ text _ _ (modelled name number plan u has first at) = ap is_answered at.status ∙ of_model at.model
of_query asked text _ _ (refused number at fault lines) = refl

answers : (asked : Option Query) (text : List ℕ) (due : Status) (answer : List ℕ) → IsDueTo asked text due answer → is_answered due ≡ true
answers None text due answer is = ap is_answered is.0
answers (Some asked) text due answer is = of_query asked text due answer is

pub no_write_fault : (asked : Option Query) (text : List ℕ) (due : Status) (answer : List ℕ) → IsDueTo asked text due answer → due ≢ WriteFault
no_write_fault asked text due answer is e = true≢false (sym (answers asked text due answer is) ∙ ap is_answered e)

-- a call that wrote an answer, or a front of it, ends neither by a fault of the source nor for want of memory
pub written : (asked : Query) (text : List ℕ) (due r : Status) (answer : List ℕ) → IsDue asked text due answer → (r ≡ due) ⊎ (r ≡ WriteFault) → (r ≡ ReadFault) ⊎ (r ≡ OutOfMemory) → ⊥
written asked text due r answer is (inl same) (inl e) = true≢false (sym (of_query asked text due answer is) ∙ (ap is_answered (sym same) ∙ ap is_answered e))
written asked text due r answer is (inl same) (inr e) = true≢false (sym (of_query asked text due answer is) ∙ (ap is_answered (sym same) ∙ ap is_answered e))
written asked text due r answer is (inr fault) (inl e) = absurd (cc (fault, e))
written asked text due r answer is (inr fault) (inr e) = absurd (cc (fault, e))

pub finished : (status r : Status) (asked : Option Query) (text answer : List ℕ) (old new : Option (List ℕ)) → IsDueTo asked text status answer →
    (r ≡ status → Appends old new answer) → (r ≡ WriteFault → TookFront old new answer) → (r ≡ status) ⊎ (r ≡ WriteFault) → Ends r asked text old new
finished status r asked text answer old new due taken front (inr e) = rw e (status, answer, due, front e)
finished status r asked text answer old new due taken front (inl e) = rw e (whole status (answers asked text status answer due) due (taken e))
  where
    whole : (status : Status) → is_answered status ≡ true → IsDueTo asked text status answer → Appends old new answer → Ends status asked text old new
    whole Written is due all = (answer, due, all)
    whole Warned is due all = (answer, due, all)
    whole NoCase is due all = (answer, due, all)
    whole SomeFalse is due all = (answer, due, all)
    whole SomeUnknown is due all = (answer, due, all)
    whole Refused is due all = (answer, due, all)
    whole Usage is due all = (answer, due, all)
    whole ReadFault is due all = absurd (true≢false (sym is))
    whole WriteFault is due all = absurd (true≢false (sym is))
    whole OutOfMemory is due all = absurd (true≢false (sym is))

-- ---- what is due

pub line_31 : (text : List ℕ) → codes "fault 31 at line 1 column 1" ++ 10 ∷ [] ≡ fault_text text 31 0
unfolding digits
line_31 text = refl

unshown_31 : (text : List ℕ) → (codes "fault 31 at line 1 column 1" ++ 10 ∷ []) ++ codes "  | the text has more than 1,048,576 bytes" ++ 10 ∷ [] ≡ unshown_lines text 31 0
unfolding digits
unshown_31 text = refl

pub explained_31 : (text : List ℕ) → IsExplained text 31 0 ((codes "fault 31 at line 1 column 1" ++ 10 ∷ []) ++ codes "  | the text has more than 1,048,576 bytes" ++ 10 ∷ [])
explained_31 text = subst (IsExplained text 31 0) (sym (unshown_31 text)) (unshown refl)

pub due_fault : (asked : Query) (text : List ℕ) (number at : ℕ) (due : Status) (answer : List ℕ) → IsFault asked text number at → due ≡ Refused → IsRefusal asked text number at answer → IsDue asked text due answer
due_fault asked text number at due answer is e lines = rw e (refused number at is lines)

-- a text that is too long
pub is_long : (asked : Query) (text : List ℕ) → limit < length text → IsFault asked text 31 0
is_long asked text long = faulty (record { number = 31; at = 0 }) (λ command decides. too_long long)

pub due_long : (asked : Query) (text answer : List ℕ) → limit < length text → ((t : List ℕ) → IsRefusal asked t 31 0 answer) → IsDue asked text Refused answer
due_long asked text answer long lines = due_fault asked text 31 0 Refused answer (is_long asked text long) refl (lines text)

pub due_usage : (asked : Option Query) (text answer : List ℕ) → asked ≡ None → answer ≡ usage_line → IsDueTo asked text Usage answer
due_usage asked text answer none is = rw none (refl, is)

-- the same for equal texts and answers
pub due_at : (asked : Query) (text other answer bytes : List ℕ) (due : Status) → other ≡ text → bytes ≡ answer → IsDue asked other due bytes → IsDue asked text due answer
due_at asked text other answer bytes due e f is = rw (← e, ← f) is

pub both_ok : {A E : Type 0} (result : Result A E) (P Q R : A → Type 0) → ((a : A) → P a → Q a → R a) → IfOk result P → IfOk result Q → IfOk result R
both_ok (Ok a) P Q R join p q = join a p q
both_ok (Err e) P Q R join p q = tt
