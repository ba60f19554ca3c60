-- Two reports of a text over the same bits, of which neither leaves it open.
use Rattle.std.proofs.Common.{◌≡◌, ◌∙◌, ◌||◌, Bool, true, false, List, [], ◌∷◌, ap, ap₂, refl, sym, subst, true≢false}
use Rattle.std.specs.Prelude.{if◌then◌else◌}
use Rattle.std.specs.List.{list_any, AllZip}
use Rattle.smv_bits.specs.declared.Bits.{Bits}
use Rattle.smv_bits.specs.declared.Bits.TheVariants.{Near, Declared}
use Rattle.law_obligations.specs.Sets.{first, later}
use Rattle.smv_problem.specs.declared.report.Verdict.{Verdict}
use Rattle.smv_problem.specs.declared.report.Verdict.TheVariants as verdict
use Rattle.smv_problem.specs.declared.report.UnitResult.{UnitResult}
use Rattle.smv_problem.specs.declared.report.Report.{Report}
use Rattle.law_reports.specs.Verdicts.{LeafVerdict, all_true, AreOne, AreOneEach}
use Rattle.law_reports.specs.Reports.{AllTrueUnits, told, told_of}
use Rattle.smv_command.specs.declared.exit.Status.{Status}
use Rattle.smv_command.specs.declared.exit.Status.TheVariants as status
use Rattle.law_document_answers.specs.Statuses.{is_false, is_unknown, status_of}
use Rattle.law_document_answers.proofs.Statuses.{same_status, true_units}
use Rattle.law_ltl_answers.specs.Laws.{leaves_open}

-- ---- units

one_back : (v w : LeafVerdict) → AreOne Near v w → AreOne Near w v
one_back v w one known known_too = sym (one known_too known)

each_back : (vs ws : List LeafVerdict) → AllZip (AreOne Near) vs ws → AllZip (AreOne Near) ws vs
each_back [] [] one = tt
each_back [] (w ∷ ws) one = elim one [ ]
each_back (v ∷ vs) [] one = elim one [ ]
each_back (v ∷ vs) (w ∷ ws) one = (one_back v w one.0, each_back vs ws one.1)

-- beside a true unit none is false
not_false : (v : Verdict) → AreOne Near (told v) all_true → is_false v ≡ false
not_false verdict.True one = refl
not_false (verdict.False case elements path) one = let bad = one refl refl in absurd (cc (bad))
not_false (verdict.UnknownNodes case count) one = refl
not_false (verdict.UnknownSteps case) one = refl

none_false : (units others : List UnitResult) → AllZip (AreOne Near) (told_of units) (told_of others) → AllTrueUnits others → list_any (λ u. is_false u.verdict) units ≡ false
none_false [] others one all = refl
none_false (u ∷ units) [] one all = elim one [ ]
none_false (u ∷ units) (o ∷ others) one all =
    ap₂ ◌||◌ (not_false u.verdict (subst (λ (v : Verdict). AreOne Near (told u.verdict) (told v)) (all o first) one.0)) (none_false units others one.1 (λ r h. all r (later h)))

all_told : (units others : List UnitResult) → AllZip (AreOne Near) (told_of units) (told_of others) → AllTrueUnits units → AllTrueUnits others → told_of units ≡ told_of others
all_told [] [] one all all_too = refl
all_told [] (o ∷ others) one all all_too = elim one [ ]
all_told (u ∷ units) [] one all all_too = elim one [ ]
all_told (u ∷ units) (o ∷ others) one all all_too =
    ap₂ (λ (v : LeafVerdict) (vs : List LeafVerdict). v ∷ vs) (ap told (all u first ∙ sym (all_too o first))) (all_told units others one.1 (λ r h. all r (later h)) (λ r h. all_too r (later h)))

-- ---- reports

-- some unit is false, or each is true, where nothing is left open
data Closed (proved : Status) (report : Report) : Type 0 where
  some_false : list_any (λ u. is_false u.verdict) report.units ≡ true → status_of proved report ≡ status.SomeFalse → Closed proved report
  all_are : AllTrueUnits report.units → status_of proved report ≡ proved → Closed proved report

abbrev status_for : Status → Bool → Bool → Status
status_for proved x y = if x then status.SomeFalse else (if y then status.SomeUnknown else proved)

closed : (proved : Status) (report : Report) → leaves_open Near (status_of proved report) ≡ false → Closed proved report
closed proved report e = by (list_any (λ u. is_false u.verdict) report.units) refl (list_any (λ u. is_unknown u.verdict) report.units) refl
  where
    by : (x : Bool) → list_any (λ u. is_false u.verdict) report.units ≡ x → (y : Bool) → list_any (λ u. is_unknown u.verdict) report.units ≡ y → Closed proved report
    by true f y u = some_false f (ap (λ (b : Bool). status_for proved b (list_any (λ u. is_unknown u.verdict) report.units)) f)
    by false f true u = absurd (true≢false (sym (ap (leaves_open Near) (ap₂ (status_for proved) f u)) ∙ e))
    by false f false u = all_are (true_units report.units f u) (ap₂ (status_for proved) f u)

pub status_alike : (bits : Bits) (proved : Status) (report other : Report) → AreOneEach bits (told_of report.units) (told_of other.units) → leaves_open bits (status_of proved report) ≡ false → leaves_open bits (status_of proved other) ≡ false →
    status_of proved report ≡ status_of proved other
status_alike Declared proved report other same e f = same_status proved report other same
status_alike Near proved report other one e f = by (closed proved report e) (closed proved other f)
  where
    by : Closed proved report → Closed proved other → status_of proved report ≡ status_of proved other
    by (some_false is at) (some_false is_too at_too) = at ∙ sym at_too
    by (some_false is at) (all_are all at_too) = absurd (true≢false (sym is ∙ none_false report.units other.units one all))
    by (all_are all at) (some_false is at_too) = absurd (true≢false (sym is ∙ none_false other.units report.units (each_back (told_of report.units) (told_of other.units) one) all))
    by (all_are all at) (all_are all_too at_too) = at ∙ sym at_too

-- where no unit is false, the two tell the same
pub told_equal : (bits : Bits) (proved : Status) (report other : Report) → AreOneEach bits (told_of report.units) (told_of other.units) → leaves_open bits (status_of proved report) ≡ false → leaves_open bits (status_of proved other) ≡ false →
    list_any (λ u. is_false u.verdict) report.units ≡ false → told_of report.units ≡ told_of other.units
told_equal Declared proved report other same e f none = same
told_equal Near proved report other one e f none = by (closed proved report e) (closed proved other f)
  where
    by : Closed proved report → Closed proved other → told_of report.units ≡ told_of other.units
    by (some_false is at) c = absurd (true≢false (sym is ∙ none))
    by (all_are all at) (some_false is at_too) = absurd (true≢false (sym is ∙ none_false other.units report.units (each_back (told_of report.units) (told_of other.units) one) all))
    by (all_are all at) (all_are all_too at_too) = all_told report.units other.units one all all_too
