-- What is due by what was found.
use Rattle.std.proofs.Common.{◌≡◌, ◌≤◌, ◌<◌, ◌∙◌, [], ℕ, List, length, true, false, refl, ap, sym, subst, Err, Option, Some, None}
use Rattle.smv_core.specs.declared.fault.Fault.{Fault}
use Rattle.smv_core.specs.declared.fault.Refusal.{Refusal}
use Rattle.smv_core.specs.declared.fault.Refusal.TheVariants as refusal
use Rattle.smv_core.specs.declared.tree.Text.{Text}
use Rattle.smv_lex.specs.Answers.{IfFault}
use Rattle.smv_parse.specs.Spelling.{HasFault, SpellsText}
use Rattle.smv_print.specs.Canonical.{canonical}
use Rattle.smv_report.specs.Lines.{fault_text}
use Rattle.smv_bits.specs.declared.Bits.{Bits}
use Rattle.smv_problem.specs.declared.report.Budgets.{Budgets}
use Rattle.smv_problem.specs.declared.report.Report.{Report}
use Rattle.smv_command.specs.declared.commands.Command.{Command}
use Rattle.smv_command.specs.declared.commands.Command.TheVariants.{Prove, Only, Print, Generated, Proof, Check, Resume, Confirm, Induct, Ltl}
use Rattle.smv_command.specs.declared.exit.Status.{Status}
use Rattle.smv_command.specs.declared.exit.Status.TheVariants as status
use Rattle.smv_gen.specs.Generated.{generated_text}
use Rattle.smv_answers.specs.Reports.{IsUnitReport, HasNoUnit}
use Rattle.law_document_answers.specs.Dues.{refused_text, too_long_to_check, too_long_to_resume}
use Rattle.law_judgements.specs.Judgements as judgement
use Rattle.law_induct_answers.specs.Dues as induct
use Rattle.law_ltl_answers.specs.Dues as ltl
use Rattle.law_translated_texts.specs.Answers as translation
use Rattle.smv_top.specs.Refusals.{IsRefused}
use Rattle.smv_answers.specs.Dues.{IsDue, IsDueTo, IsFault, IsReportFor, text_for, usage_line, decided, printed, refused, too_long, malformed, unnamed, decides, is_of_own, length_fault, limit, limit_for, of_documents, of_formulas, of_induction, lines_for, proved_by, status_of}

pub due_report : (command : Command) (text : List ℕ) (report : Report) (due : Status) (answer : List ℕ) → IsReportFor command text report → due ≡ status_of (proved_by command) report → answer ≡ lines_for command report → IsDue command text due answer
due_report command text report due answer is e f = rw e (rw f (decided report is))

pub due_fault : (command : Command) (text : List ℕ) (number at : ℕ) (due : Status) (answer : List ℕ) → is_of_own command ≡ false → IsFault command text number at → due ≡ status.Refused → answer ≡ fault_text text number at → IsDue command text due answer
due_fault command text number at due answer own is e f = rw e (rw f (refused number at own is))

pub due_tree : (text : List ℕ) (tree : Text) (due : Status) (answer : List ℕ) → length text ≤ limit → SpellsText text tree → due ≡ status.Printed → answer ≡ canonical tree → IsDue Print text due answer
due_tree text tree due answer within is e f = rw e (rw f (printed tree (record { within = within; spelled = is })))

pub due_length : (command : Command) (text : List ℕ) (due : Status) (answer : List ℕ) → is_of_own command ≡ false → limit < length text → due ≡ status.Refused → answer ≡ fault_text text 31 0 → IsDue command text due answer
due_length command text due answer own long e f = due_fault command text 31 0 due answer own (too_long long) e f

pub due_form : (text : List ℕ) (number at : ℕ) (due : Status) (answer : List ℕ) → length text ≤ limit → HasFault text number at → due ≡ status.Refused → answer ≡ fault_text text number at → IsDue Print text due answer
due_form text number at due answer within bad e f = due_fault Print text number at due answer refl (malformed number at within bad) e f

pub due_name : (text name : List ℕ) (bits : Bits) (budgets : Budgets) (due : Status) (answer : List ℕ) → HasNoUnit text name → due ≡ status.Refused → answer ≡ fault_text text 26 0 → IsDue (Only name bits budgets) text due answer
due_name text name bits budgets due answer none e f = due_fault (Only name bits budgets) text 26 0 due answer refl (unnamed name bits budgets.nodes budgets.steps none) e f

-- the fault that a call answers
pub fault_of : (X : Type 0) (r : Refusal) (f : Fault) (P : Fault → Type 0) → r ≡ refusal.Fault f → IfFault {X = X} (Err r) P → P f
fault_of X r f P is bad = subst (λ (z : Refusal). IfFault {X = X} (Err z) P) is bad

-- the answer to a refusal by a fault
pub is_refused : (text : List ℕ) (r : Refusal) (f : Fault) (due : Status) (answer : List ℕ) → r ≡ refusal.Fault f → due ≡ status.Refused → answer ≡ fault_text text f.number f.at → IsRefused text r due answer
is_refused text r f due answer is e g = subst (λ (x : Refusal). IsRefused text x due answer) (sym is) (e, g)

-- what is due by a refusal, where it is due by each fault that is answered
pub due_by_refusal : (X : Type 0) (text : List ℕ) (r : Refusal) (P : Fault → Type 0) (D : Status → List ℕ → Type 0) →
    ((f : Fault) → P f → (due : Status) (answer : List ℕ) → due ≡ status.Refused → answer ≡ fault_text text f.number f.at → D due answer) → IfFault {X = X} (Err r) P → (due : Status) (answer : List ℕ) → IsRefused text r due answer → D due answer
due_by_refusal X text (refusal.Fault f) P D gives bad due answer is = gives f bad due answer is.0 is.1
due_by_refusal X text refusal.OutOfMemory P D gives bad due answer is = absurd is

-- words that are no command
pub due_usage : (command : Option Command) (text answer : List ℕ) → command ≡ None → answer ≡ usage_line → IsDueTo command text status.Usage answer
due_usage command text answer none is = rw none (refl, is)

-- a text that is too long, under a command whose text it is
due_over : (command : Command) (text : List ℕ) → limit_for command < length text → IsDue command text status.Refused (fault_text text (length_fault command) 0)
due_over (Prove bits budgets) text long = refused 31 0 refl (too_long long)
due_over (Only name bits budgets) text long = refused 31 0 refl (too_long long)
due_over Print text long = refused 31 0 refl (too_long long)
due_over (Generated copies) text long = refused 31 0 refl (too_long long)
due_over (Proof budgets) text long = of_documents (refused_text budgets 31 0 (judgement.too_long long))
due_over Check text long = of_documents (too_long_to_check long)
due_over (Resume budgets) text long = of_documents (too_long_to_resume budgets long)
due_over (Confirm name sizes bits budgets) text long = refused 31 0 refl (too_long long)
due_over (Induct name var budgets) text long = of_induction name var budgets (induct.refused_text status.Inducted name var budgets 31 0 (judgement.too_long long))
due_over (Ltl bits budgets) text long = of_formulas bits budgets (ltl.refused_text status.AllFormulas bits budgets 31 0 (translation.too_long long))

at_first : (command : Command) (text : List ℕ) → fault_text [] (length_fault command) 0 ≡ fault_text text (length_fault command) 0
at_first command text = refl

pub due_long : (command : Command) (text answer : List ℕ) → text_for command text ≡ text → limit_for command < length text → answer ≡ fault_text [] (length_fault command) 0 → IsDueTo (Some command) text status.Refused answer
due_long command text answer own long is =
    let asked = text_for command text in
    subst (λ (a : List ℕ). IsDue command asked status.Refused a) (sym (is ∙ at_first command asked)) (due_over command asked (subst (λ t. limit_for command < length t) (sym own) long))

-- a generated text, under the command that asks for it
pub due_copies : (command : Command) (copies : ℕ) (text made answer : List ℕ) (due : Status) → command ≡ Generated copies → made ≡ generated_text copies → IsDue command made due answer → IsDueTo (Some command) text due answer
due_copies command copies text made answer due asks is owed = subst (λ t. IsDue command t due answer) (is ∙ sym (ap (λ c. text_for c text) asks)) owed

-- the report of one unit, none, and a fault, under the command that asks for the unit
pub report_of_unit : (command : Command) (text name : List ℕ) (bits : Bits) (budgets : Budgets) (report : Report) → command ≡ Only name bits budgets → IsUnitReport text name bits budgets.nodes budgets.steps report → IsReportFor command text report
report_of_unit command text name bits budgets report asks is = rw asks is

pub due_no_unit : (command : Command) (text name : List ℕ) (bits : Bits) (budgets : Budgets) (due : Status) (answer : List ℕ) → command ≡ Only name bits budgets → HasNoUnit text name → due ≡ status.Refused → answer ≡ fault_text text 26 0 → IsDue command text due answer
due_no_unit command text name bits budgets due answer asks none e f = rw asks (due_name text name bits budgets due answer none e f)

pub decides_one : (command : Command) (name : List ℕ) (bits : Bits) (budgets : Budgets) → command ≡ Only name bits budgets → decides command ≡ true
decides_one command name bits budgets asks = rw asks refl

pub own_one : (command : Command) (name : List ℕ) (bits : Bits) (budgets : Budgets) → command ≡ Only name bits budgets → is_of_own command ≡ false
own_one command name bits budgets asks = rw asks refl

-- the same, of equal bytes
pub due_at : (command : Command) (text other : List ℕ) (due : Status) (answer written : List ℕ) → text ≡ other → answer ≡ written → IsDue command text due answer → IsDue command other due written
due_at command text other due answer written same is owed = subst (λ t. IsDue command t due written) same (subst (λ a. IsDue command text due a) is owed)
