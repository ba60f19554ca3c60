-- The statuses that are due to an induction.
use Rattle.std.proofs.Common.{◌≡◌, ℕ, Bool, true, false, List}
use Rattle.std.specs.Prelude.{if◌then◌else◌}
use Rattle.std.specs.List.{list_any}
use Rattle.smv_core.specs.Values.{Name}
use Rattle.smv_problem.specs.declared.report.Budgets.{Budgets}
use Rattle.smv_command.specs.declared.exit.Status.{Status}
use Rattle.smv_command.specs.declared.exit.Status.TheVariants as status
use Rattle.law_document_answers.specs.Statuses.{is_false, is_unknown}
use Rattle.law_induct_answers.specs.Dues.{IsInductDue, inducted, refused_text, no_induction, refused_stronger}

-- a status that is due fails a test that those of a false unit, of an unknown one, of a refusal and of a proved text fail
pub of_statuses : (test : Status → Bool) → test status.SomeFalse ≡ false → test status.SomeUnknown ≡ false → test status.Refused ≡ false → (proved : Status) → test proved ≡ false → (name var : Name) (budgets : Budgets) (text : List ℕ) (due : Status)
    (answer : List ℕ) → IsInductDue proved name var budgets text due answer → test due ≡ false
of_statuses test f u r _ p _ _ _ text _ _ (inducted proved name var budgets tree s report valid is right) = by (list_any (λ u. is_false u.verdict) report.units) (list_any (λ u. is_unknown u.verdict) report.units)
  where
    by : (x y : Bool) → test (if x then status.SomeFalse else (if y then status.SomeUnknown else proved)) ≡ false
    by true y = f
    by false true = u
    by false false = p
of_statuses test f u r _ p _ _ _ text _ _ (refused_text proved name var budgets number at fault) = r
of_statuses test f u r _ p _ _ _ text _ _ (no_induction proved name var budgets tree valid none) = r
of_statuses test f u r _ p _ _ _ text _ _ (refused_stronger proved name var budgets tree s number at valid is fault) = r
