-- What statuses say of reports.
use Rattle.std.proofs.Common.{◌≡◌, ◌∙◌, ◌||◌, Bool, true, false, List, [], ◌∷◌, ap, ap₂, refl, sym, true≢false}
use Rattle.std.specs.Prelude.{if◌then◌else◌}
use Rattle.std.specs.List.{list_any}
use Rattle.std.proofs.lemmas.Bool.{or_parts}
use Rattle.law_obligations.specs.Sets.{first, later}
use Rattle.law_events.specs.Events.Event.{Counted, Reached, Images}
use Rattle.smv_problem.specs.declared.report.Verdict.{Verdict}
use Rattle.smv_problem.specs.declared.report.Verdict.TheVariants as verdict
use Rattle.smv_problem.specs.declared.report.UnitResult.{UnitResult}
use Rattle.smv_problem.specs.declared.report.Report.{Report}
use Rattle.law_reports.specs.Verdicts.{LeafVerdict, fails}
use Rattle.law_reports.specs.Reports.{AllTrueUnits, told, told_of}
use Rattle.smv_command.specs.declared.exit.Status.{Status}
use Rattle.smv_command.specs.declared.exit.Status.TheVariants as status
use Rattle.law_document_answers.specs.Statuses.{is_false, is_unknown, status_of}

abbrev fails_told : LeafVerdict → Bool
fails_told (fails classes (Reached k)) = true
fails_told _ = false

abbrev unknown_told : LeafVerdict → Bool
unknown_told (fails classes (Counted n)) = true
unknown_told (fails classes Images) = true
unknown_told _ = false

false_is : (v : Verdict) → is_false v ≡ fails_told (told v)
false_is verdict.True = refl
false_is (verdict.False case elements path) = refl
false_is (verdict.UnknownNodes case count) = refl
false_is (verdict.UnknownSteps case) = refl

unknown_is : (v : Verdict) → is_unknown v ≡ unknown_told (told v)
unknown_is verdict.True = refl
unknown_is (verdict.False case elements path) = refl
unknown_is (verdict.UnknownNodes case count) = refl
unknown_is (verdict.UnknownSteps case) = refl

any_told : (test : Verdict → Bool) (of : LeafVerdict → Bool) → ((v : Verdict) → test v ≡ of (told v)) → (units : List UnitResult) → list_any (λ u. test u.verdict) units ≡ list_any of (told_of units)
any_told test of each [] = refl
any_told test of each (u ∷ units) = ap₂ ◌||◌ (each u.verdict) (any_told test of each units)

pub same_status : (proved : Status) (report other : Report) → told_of report.units ≡ told_of other.units → status_of proved report ≡ status_of proved other
same_status proved report other same =
    let some_false : list_any (λ u. is_false u.verdict) report.units ≡ list_any (λ u. is_false u.verdict) other.units =
    any_told is_false fails_told false_is report.units ∙ (ap (list_any fails_told) same ∙ sym (any_told is_false fails_told false_is other.units)) in
    let some_unknown : list_any (λ u. is_unknown u.verdict) report.units ≡ list_any (λ u. is_unknown u.verdict) other.units =
    any_told is_unknown unknown_told unknown_is report.units ∙ (ap (list_any unknown_told) same ∙ sym (any_told is_unknown unknown_told unknown_is other.units)) in
    ap₂ (λ (x y : Bool). if x then status.SomeFalse else (if y then status.SomeUnknown else proved)) some_false some_unknown

-- ---- all is true

true_unit : (v : Verdict) → is_false v ≡ false → is_unknown v ≡ false → v ≡ verdict.True
true_unit verdict.True f u = refl
true_unit (verdict.False case elements path) f u = absurd (true≢false f)
true_unit (verdict.UnknownNodes case count) f u = absurd (true≢false u)
true_unit (verdict.UnknownSteps case) f u = absurd (true≢false u)

pub true_units : (units : List UnitResult) → list_any (λ u. is_false u.verdict) units ≡ false → list_any (λ u. is_unknown u.verdict) units ≡ false → AllTrueUnits units
true_units [] f u r h = elim h [ ]
true_units (x ∷ units) f u _ first = true_unit x.verdict (or_parts (is_false x.verdict) (list_any (λ u. is_false u.verdict) units) f).0 (or_parts (is_unknown x.verdict) (list_any (λ u. is_unknown u.verdict) units) u).0
true_units (x ∷ units) f u r (later h) = true_units units (or_parts (is_false x.verdict) (list_any (λ u. is_false u.verdict) units) f).1 (or_parts (is_unknown x.verdict) (list_any (λ u. is_unknown u.verdict) units) u).1 r h

none_any : (test : Verdict → Bool) → test verdict.True ≡ false → (units : List UnitResult) → AllTrueUnits units → list_any (λ u. test u.verdict) units ≡ false
none_any test not [] all = refl
none_any test not (x ∷ units) all = ap₂ ◌||◌ (ap test (all x first) ∙ not) (none_any test not units (λ r h. all r (later h)))

-- a report by which each unit is true has the status of its command
pub all_true : (proved : Status) (report : Report) → AllTrueUnits report.units → status_of proved report ≡ proved
all_true proved report all =
    ap₂ (λ (x y : Bool). if x then status.SomeFalse else (if y then status.SomeUnknown else proved)) (none_any is_false refl report.units all) (none_any is_unknown refl report.units all)

-- no unit of a report is false where its status is not that
pub none_false : (proved : Status) (report : Report) → (status_of proved report ≡ status.SomeFalse → ⊥) → list_any (λ u. is_false u.verdict) report.units ≡ false
none_false proved report not = by (list_any (λ u. is_false u.verdict) report.units) refl
  where
    by : (b : Bool) → list_any (λ u. is_false u.verdict) report.units ≡ b → list_any (λ u. is_false u.verdict) report.units ≡ false
    by true is = absurd (not (ap (λ (x : Bool). if x then status.SomeFalse else (if list_any (λ u. is_unknown u.verdict) report.units then status.SomeUnknown else proved)) is))
    by false is = is
