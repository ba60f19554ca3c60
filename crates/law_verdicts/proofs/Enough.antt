-- What is told under budgets that are enough.
use Rattle.std.proofs.Common.{◌≡◌, ◌≤◌, ◌<◌, ℕ, ◌*◌, List, [], ◌∷◌, ◌++◌, true, refl, sym, subst, arith}
use Rattle.smv_bits.specs.declared.Bits.{Bits}
use Rattle.smv_bits.specs.declared.Bits.TheVariants.{Near, Declared}
use Rattle.law_obligations.specs.Sets.{Has, first, later}
use Rattle.law_obligations.specs.Outlines.{Entry, Script}
use Rattle.smv_core.specs.declared.flat.Class.{Class}
use Rattle.law_obligations.specs.Scripts.{case_at}
use Rattle.smv_rings.specs.Lists.{Lists, IsLists}
use Rattle.law_events.specs.Events.{IsFirstEvent}
use Rattle.law_events.specs.Events.Event.{Counted, Images}
use Rattle.law_events.proofs.Meaning.{images_mean}
use Rattle.smv_problem.specs.declared.report.Verdict.{Verdict}
use Rattle.smv_problem.specs.declared.report.Verdict.TheVariants.{True, False, UnknownNodes, UnknownSteps}
use Rattle.law_reports.specs.Verdicts.{IsCaseVerdict}
use Rattle.law_reports.specs.Reports.{IsToldOf}
use Rattle.law_reports.proofs.Below.{are_lists}
use Rattle.law_verdicts.specs.Budgets.{lists_at, HasCases, enough_steps, enough_nodes, StepsSuffice, NodesSuffice, UnknownStepsAreFew, UnknownNodesAreFew, is_decided, EnoughDecides}
use Rattle.law_verdicts.proofs.FewLines.{counted_many}
use Rattle.law_verdicts.proofs.Closes.{spent_few}

few_steps : (l : Lists) → IsLists l → (nodes steps : ℕ) → IsFirstEvent l nodes steps Images → steps < enough_steps l
few_steps l ok nodes steps v = images_mean l (record { vars = 2 * l.bits; nodes = nodes; images = steps }) ok steps v

few_nodes : (l : Lists) → IsLists l → (nodes steps count : ℕ) → IsFirstEvent l nodes steps (Counted count) → nodes < enough_nodes l
few_nodes l ok nodes steps count v = counted_many l ok (record { vars = 2 * l.bits; nodes = nodes; images = steps }) steps count v

below : (a b : ℕ) → a < b → b ≤ a → ⊥
below a b l h = omega arith

pub steps_suffice : StepsSuffice
steps_suffice l ok nodes steps enough v = below steps (enough_steps l) (few_steps l ok nodes steps v) enough

pub nodes_suffice : NodesSuffice
nodes_suffice l ok nodes steps enough count v = below nodes (enough_nodes l) (few_nodes l ok nodes steps count v) enough

in_middle : {X : Type 0} (before behind : List X) (x : X) → Has (before ++ (x ∷ behind)) x
in_middle [] behind x = first
in_middle (y ∷ before) behind x = later (in_middle before behind x)

-- so it is with what is a verdict of a case
module _ (s : Script) (nodes steps u : ℕ) (entry : Entry) (classes : List Class) where
  steps_few : (bits : Bits) → HasCases bits s u entry → IsCaseVerdict bits nodes steps (case_at s u entry classes) Images → steps < enough_steps (lists_at s u entry classes)
  steps_few Declared are v = few_steps (lists_at s u entry classes) (are_lists (case_at s u entry classes)) nodes steps v
  steps_few Near are v = spent_few (case_at s u entry classes) (are classes) steps v

  nodes_few : (bits : Bits) (count : ℕ) → IsCaseVerdict bits nodes steps (case_at s u entry classes) (Counted count) → nodes < enough_nodes (lists_at s u entry classes)
  nodes_few Declared count v = few_nodes (lists_at s u entry classes) (are_lists (case_at s u entry classes)) nodes steps count v
  nodes_few Near count v = few_nodes (lists_at s u entry classes) (are_lists (case_at s u entry classes)) nodes steps count v

pub steps_are_few : UnknownStepsAreFew
steps_are_few s bits nodes steps u entry are r is case e =
    let told = subst (IsToldOf s bits nodes steps u entry) e is.verdict in
    steps_few s nodes steps u entry case.classes bits are told.is_verdict

pub nodes_are_few : UnknownNodesAreFew
nodes_are_few s bits nodes steps u entry r is case count e =
    let told = subst (IsToldOf s bits nodes steps u entry) e is.verdict in
    nodes_few s nodes steps u entry case.classes bits count told.is_verdict

pub enough_decides : EnoughDecides
enough_decides s bits nodes steps u entry are enough r is = by_verdict r.verdict is.verdict
  where
    by_verdict : (v : Verdict) → IsToldOf s bits nodes steps u entry v → is_decided v ≡ true
    by_verdict True told = refl
    by_verdict (False case elements path) told = refl
    by_verdict (UnknownNodes case count) told =
        let h = subst (λ xs. Has xs case.classes) (sym told.stands) (in_middle told.before told.behind case.classes) in
        absurd (below nodes (enough_nodes (lists_at s u entry case.classes)) (nodes_few s nodes steps u entry case.classes bits count told.is_verdict) (enough.nodes_are case.classes h))
    by_verdict (UnknownSteps case) told =
        let h = subst (λ xs. Has xs case.classes) (sym told.stands) (in_middle told.before told.behind case.classes) in
        absurd (below steps (enough_steps (lists_at s u entry case.classes)) (steps_few s nodes steps u entry case.classes bits are told.is_verdict) (enough.steps_are case.classes h))
