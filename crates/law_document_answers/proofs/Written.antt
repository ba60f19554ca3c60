-- What is due of documents tells what was found.
use Rattle.std.proofs.Common.{◌≡◌, ◌∙◌, ℕ, Bool, true, false, List, refl, sym, ap, true≢false}
use Rattle.std.specs.Prelude.{if◌then◌else◌}
use Rattle.std.specs.List.{list_any}
use Rattle.smv_problem.specs.declared.report.Report.{Report}
use Rattle.smv_command.specs.declared.commands.Command.{Command}
use Rattle.smv_command.specs.declared.exit.Status.{Status}
use Rattle.smv_command.specs.declared.exit.Status.TheVariants as status
use Rattle.smv_proof.specs.declared.proof.Proof.{Proof as Document}
use Rattle.law_checked_proofs.specs.Kept.{IsProofOf}
use Rattle.law_checked_proofs.specs.Resumed.{IsResumedProof}
use Rattle.law_judgements.specs.Judgements.{Judgement, IsJudged}
use Rattle.law_judgements.specs.Judgements.Judgement.{yes, form, design, set}
use Rattle.law_document_answers.specs.Statuses.{is_false, is_unknown, status_of}
use Rattle.law_document_answers.specs.Dues.{IsDocumentDue, IsOld, documented, open_report, refused_text, too_long_to_check, judged, refused_design, too_long_to_resume, not_old, refused_new, resumed, open_resumed, status_by}

-- tests of a status
abbrev is_documented : Status → Bool
is_documented status.Documented = true
is_documented _ = false

abbrev is_checked : Status → Bool
is_checked status.Checked = true
is_checked _ = false

abbrev is_resumed : Status → Bool
is_resumed status.Resumed = true
is_resumed _ = false

-- a status that fails a test is none that passes it
never : {X : Type 0} (test : Status → Bool) (due target : Status) → due ≡ target → test due ≡ false → test target ≡ true → X
never test due target e not is = absurd (true≢false (sym is ∙ (ap test (sym e) ∙ not)))

-- a report's status fails a test that those of a false unit, of an unknown one and of its command fail
of_report : (test : Status → Bool) (proved : Status) (report : Report) → test status.SomeFalse ≡ false → test status.SomeUnknown ≡ false → test proved ≡ false → test (status_of proved report) ≡ false
of_report test proved report f u p = by (list_any (λ u. is_false u.verdict) report.units) (list_any (λ u. is_unknown u.verdict) report.units)
  where
    by : (x y : Bool) → test (if x then status.SomeFalse else (if y then status.SomeUnknown else proved)) ≡ false
    by true y = f
    by false true = u
    by false false = p

of_judgement : (test : Status → Bool) (j : Judgement) → test status.Checked ≡ false → test status.Rejected ≡ false → test status.Refused ≡ false → test (status_by j) ≡ false
of_judgement test (yes n) c r f = c
of_judgement test form c r f = r
of_judgement test (design number at) c r f = f
of_judgement test (set k) c r f = r

-- a document of the text is written
pub record IsWritten (text : List ℕ) : Type 0 where
  pub nodes : ℕ
  pub steps : ℕ
  pub proof : Document
  pub is_proof : IsProofOf nodes steps text proof

pub proof_written : (command : Command) (text : List ℕ) (due : Status) (answer : List ℕ) → due ≡ status.Documented → IsDocumentDue command text due answer → IsWritten text
proof_written _ text _ _ e (documented budgets proof is) = record { nodes = budgets.nodes; steps = budgets.steps; proof = proof; is_proof = is }
proof_written _ text _ _ e (open_report budgets report right other) = absurd (other e)
proof_written _ text _ _ e (refused_text budgets number at fault) = never is_documented _ status.Documented e refl refl
proof_written _ text _ _ e (too_long_to_check long) = never is_documented _ status.Documented e refl refl
proof_written _ text _ _ e (judged j within is other) = never is_documented _ status.Documented e (of_judgement is_documented j refl refl refl) refl
proof_written _ text _ _ e (refused_design proof number at within spells fault) = never is_documented _ status.Documented e refl refl
proof_written _ text _ _ e (too_long_to_resume budgets long) = never is_documented _ status.Documented e refl refl
proof_written _ text _ _ e (not_old budgets within none) = never is_documented _ status.Documented e refl refl
proof_written _ text _ _ e (refused_new budgets old new proof number at within is spells fault) = never is_documented _ status.Documented e refl refl
proof_written _ text _ _ e (resumed budgets old new proof made within is spells is_new) = never is_documented _ status.Documented e refl refl
proof_written _ text _ _ e (open_resumed budgets old new proof report within is spells told other) = never is_documented _ status.Documented e (of_report is_documented status.Resumed report refl refl refl) refl

-- the bytes are judged with yes
yes_only : (bytes : List ℕ) (j : Judgement) → status_by j ≡ status.Checked → IsJudged bytes j → (n : ℕ) × IsJudged bytes (yes n)
yes_only bytes (yes n) e is = (n, is)
yes_only bytes form e is = never is_checked _ status.Checked e refl refl
yes_only bytes (design number at) e is = never is_checked _ status.Checked e refl refl
yes_only bytes (set k) e is = never is_checked _ status.Checked e refl refl

pub proof_checked : (command : Command) (bytes : List ℕ) (due : Status) (answer : List ℕ) → due ≡ status.Checked → IsDocumentDue command bytes due answer → (n : ℕ) × IsJudged bytes (yes n)
proof_checked _ bytes _ _ e (documented budgets proof is) = never is_checked _ status.Checked e refl refl
proof_checked _ bytes _ _ e (open_report budgets report right other) = never is_checked _ status.Checked e (of_report is_checked status.Documented report refl refl refl) refl
proof_checked _ bytes _ _ e (refused_text budgets number at fault) = never is_checked _ status.Checked e refl refl
proof_checked _ bytes _ _ e (too_long_to_check long) = never is_checked _ status.Checked e refl refl
proof_checked _ bytes _ _ e (judged j within is other) = yes_only bytes j e is
proof_checked _ bytes _ _ e (refused_design proof number at within spells fault) = never is_checked _ status.Checked e refl refl
proof_checked _ bytes _ _ e (too_long_to_resume budgets long) = never is_checked _ status.Checked e refl refl
proof_checked _ bytes _ _ e (not_old budgets within none) = never is_checked _ status.Checked e refl refl
proof_checked _ bytes _ _ e (refused_new budgets old new proof number at within is spells fault) = never is_checked _ status.Checked e refl refl
proof_checked _ bytes _ _ e (resumed budgets old new proof made within is spells is_new) = never is_checked _ status.Checked e refl refl
proof_checked _ bytes _ _ e (open_resumed budgets old new proof report within is spells told other) = never is_checked _ status.Checked e (of_report is_checked status.Resumed report refl refl refl) refl

-- a document of the new text is written, behind an old one
pub record IsResumedFrom (bytes : List ℕ) : Type 0 where
  pub nodes : ℕ
  pub steps : ℕ
  pub old : List ℕ
  pub text : List ℕ
  pub proof : Document
  pub new : Document
  pub is_old : IsOld bytes old text
  pub is_new : IsResumedProof proof.sets nodes steps text new

pub proof_resumed : (command : Command) (bytes : List ℕ) (due : Status) (answer : List ℕ) → due ≡ status.Resumed → IsDocumentDue command bytes due answer → IsResumedFrom bytes
proof_resumed _ bytes _ _ e (documented budgets proof is) = never is_resumed _ status.Resumed e refl refl
proof_resumed _ bytes _ _ e (open_report budgets report right other) = never is_resumed _ status.Resumed e (of_report is_resumed status.Documented report refl refl refl) refl
proof_resumed _ bytes _ _ e (refused_text budgets number at fault) = never is_resumed _ status.Resumed e refl refl
proof_resumed _ bytes _ _ e (too_long_to_check long) = never is_resumed _ status.Resumed e refl refl
proof_resumed _ bytes _ _ e (judged j within is other) = never is_resumed _ status.Resumed e (of_judgement is_resumed j refl refl refl) refl
proof_resumed _ bytes _ _ e (refused_design proof number at within spells fault) = never is_resumed _ status.Resumed e refl refl
proof_resumed _ bytes _ _ e (too_long_to_resume budgets long) = never is_resumed _ status.Resumed e refl refl
proof_resumed _ bytes _ _ e (not_old budgets within none) = never is_resumed _ status.Resumed e refl refl
proof_resumed _ bytes _ _ e (refused_new budgets old text proof number at within is spells fault) = never is_resumed _ status.Resumed e refl refl
proof_resumed _ bytes _ _ e (resumed budgets old text proof new within is spells is_new) =
    record { nodes = budgets.nodes; steps = budgets.steps; old = old; text = text; proof = proof; new = new; is_old = is; is_new = is_new }
proof_resumed _ bytes _ _ e (open_resumed budgets old text proof report within is spells told other) = absurd (other e)
