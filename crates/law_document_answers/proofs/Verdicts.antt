-- Two verdicts that tell the same are one, but for false ones.
use Rattle.std.proofs.Common.{◌≡◌, false, List, [], refl, true≢false}
use Rattle.smv_core.specs.declared.flat.Class.{Class}
use Rattle.smv_problem.specs.declared.report.Verdict.{Verdict}
use Rattle.smv_problem.specs.declared.report.Verdict.TheVariants as verdict
use Rattle.law_reports.specs.Verdicts.{LeafVerdict, all_true, fails}
use Rattle.law_reports.specs.Reports.{told}
use Rattle.law_document_answers.specs.Statuses.{is_false}

-- the classes of what is told of a case that is not true
classes_told : LeafVerdict → List Class
classes_told all_true = []
classes_told (fails classes v) = classes

pub verdict_is : (v w : Verdict) → told v ≡ told w → is_false v ≡ false → v ≡ w
verdict_is verdict.True verdict.True e f = refl
verdict_is verdict.True (verdict.False case elements path) e f = absurd (cc)
verdict_is verdict.True (verdict.UnknownNodes case count) e f = absurd (cc)
verdict_is verdict.True (verdict.UnknownSteps case) e f = absurd (cc)
verdict_is (verdict.False case elements path) w e f = absurd (true≢false f)
verdict_is (verdict.UnknownNodes case count) verdict.True e f = absurd (cc)
verdict_is (verdict.UnknownNodes case count) (verdict.False other elements path) e f = absurd (cc)
verdict_is (verdict.UnknownNodes case count) (verdict.UnknownNodes other number) e f =
    let classes : case.classes ≡ other.classes = cc in
    let counts : count ≡ number = cc in
    λ i. verdict.UnknownNodes (record { classes = classes i }) (counts i)
verdict_is (verdict.UnknownNodes case count) (verdict.UnknownSteps other) e f = absurd (cc)
verdict_is (verdict.UnknownSteps case) verdict.True e f = absurd (cc)
verdict_is (verdict.UnknownSteps case) (verdict.False other elements path) e f = absurd (cc)
verdict_is (verdict.UnknownSteps case) (verdict.UnknownNodes other number) e f = absurd (cc)
verdict_is (verdict.UnknownSteps case) (verdict.UnknownSteps other) e f =
    let classes : case.classes ≡ other.classes = cc in
    λ i. verdict.UnknownSteps (record { classes = classes i })
