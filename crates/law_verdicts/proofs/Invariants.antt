-- True verdicts have invariants.
use Rattle.std.proofs.Common.{◌≡◌, ℕ, zero, suc, ◌+◌, ◌*◌, List, [], ◌∷◌, subst, Some, slice_get, arith}
use Rattle.smv_bits.specs.declared.Bits.{Bits}
use Rattle.smv_bits.specs.declared.Bits.TheVariants.{Near, Declared}
use Rattle.law_obligations.specs.Outlines.{Entry, Script, outline_of}
use Rattle.law_obligations.specs.Times.{graph, timed}
use Rattle.law_obligations.specs.Scripts.{case_at}
use Rattle.law_obligations.proofs.ScriptCases.{is_case}
use Rattle.smv_rings.specs.Lists.{at}
use Rattle.smv_rings.specs.Schedule.{ring}
use Rattle.law_events.proofs.Meaning.{true_means}
use Rattle.smv_problem.specs.declared.report.UnitResult.{UnitResult}
use Rattle.law_reports.specs.CaseLists.{case_lists}
use Rattle.law_reports.specs.Reports.{IsToldOf, IsResultOf, AreResultsFrom}
use Rattle.law_reports.proofs.Below.{are_lists}
use Rattle.law_reports.proofs.Paths.{induction_to}
use Rattle.law_verdicts.proofs.Closes.{some_inductive, none_violates}
use Rattle.law_verdicts.specs.Invariants.{TrueCasesHaveInvariants, TrueResultsHaveInvariants, TrueReportsHaveInvariants}

pub true_cases : TrueCasesHaveInvariants
true_cases c is Declared nodes steps k v =
    let means = true_means (case_lists c) (record { vars = 2 * (case_lists c).bits; nodes = nodes; images = steps }) (are_lists c) steps k v in
    ((λ s. ring (case_lists c) k (at s)), induction_to c is (ring (case_lists c) k) means.0)
true_cases c is Near nodes steps k none =
    let r = some_inductive (case_lists c) (are_lists c) (none_violates c is none) in
    ((λ s. ring (case_lists c) r.0 (at s)), induction_to c is (ring (case_lists c) r.0) r.1)

pub true_results : TrueResultsHaveInvariants
true_results s checked have bits nodes steps u entry e r is true_is classes h =
    let told = subst (IsToldOf s bits nodes steps u entry) true_is is.verdict in
    let t = told classes h in
    true_cases (case_at s u entry classes) (is_case s checked have entry classes (timed (outline_of s) (graph s) u entry)) bits nodes steps t.0 t.1

module _ (s : Script) (bits : Bits) (nodes steps : ℕ) where
  -- the result at the place of an entry is that of its unit
  result_at : (j u v : ℕ) (entries : List Entry) (results : List UnitResult) → v ≡ j + u → AreResultsFrom s bits nodes steps j entries results →
      (entry : Entry) → slice_get entries u ≡ Some entry → (r : UnitResult) → slice_get results u ≡ Some r → IsResultOf s bits nodes steps v entry r
  result_at j u v [] results e are entry g r k = absurd (cc)
  result_at j u v (x ∷ entries) [] e are entry g r k = elim are [ ]
  result_at j zero v (x ∷ entries) (q ∷ results) e are entry g r k =
      let same : j ≡ v = omega arith in
      subst (λ i. IsResultOf s bits nodes steps i entry r) same
      (subst (λ y. IsResultOf s bits nodes steps j y r) (inner g) (subst (λ p. IsResultOf s bits nodes steps j x p) (inner k) are.0))
    where
      inner : {X : Type 0} {y z : X} → Some y ≡ Some z → y ≡ z
      inner e = cc
  result_at j (suc u) v (x ∷ entries) (q ∷ results) e are entry g r k = result_at (suc j) u v entries results (omega arith) are.1 entry g r k

pub true_reports : TrueReportsHaveInvariants
true_reports s checked have bits nodes steps report is u entry e r k true_is =
    true_results s checked have bits nodes steps u entry e r (result_at s bits nodes steps 0 u u s.entries report.units (omega arith) is.units entry e r k) true_is
