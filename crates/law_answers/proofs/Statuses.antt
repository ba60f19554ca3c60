-- The statuses that are due to the command for formulas over several times.
use Rattle.std.proofs.Common.{◌≡◌, ℕ, Bool, true, false, List}
use Rattle.std.specs.Prelude.{if◌then◌else◌}
use Rattle.std.specs.List.{list_any}
use Rattle.smv_bits.specs.declared.Bits.{Bits}
use Rattle.smv_problem.specs.declared.report.Budgets.{Budgets}
use Rattle.smv_command.specs.declared.exit.Status.{Status}
use Rattle.smv_command.specs.declared.exit.Status.TheVariants as status
use Rattle.law_document_answers.specs.Statuses.{is_false, is_unknown}
use Rattle.law_ltl_answers.specs.Dues.{IsLtlDue, translated, refused_text, refused_translation}

-- a status that is due fails a test that those of a false unit, of an unknown one, of a refusal and of a proved text fail
pub of_ltl_statuses : (test : Status → Bool) → test status.SomeFalse ≡ false → test status.SomeUnknown ≡ false → test status.Refused ≡ false → (proved : Status) → test proved ≡ false → (bits : Bits) (budgets : Budgets) (text : List ℕ) (due : Status)
    (answer : List ℕ) → IsLtlDue proved bits budgets text due answer → test due ≡ false
of_ltl_statuses test f u r _ p _ _ text _ _ (translated proved bits budgets t report is right) = by (list_any (λ u. is_false u.verdict) report.units) (list_any (λ u. is_unknown u.verdict) report.units)
  where
    by : (x y : Bool) → test (if x then status.SomeFalse else (if y then status.SomeUnknown else proved)) ≡ false
    by true y = f
    by false true = u
    by false false = p
of_ltl_statuses test f u r _ p _ _ text _ _ (refused_text proved bits budgets number at fault) = r
of_ltl_statuses test f u r _ p _ _ text _ _ (refused_translation proved bits budgets t number at is fault) = r
