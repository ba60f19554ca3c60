-- What is told of a unit at given sizes, beside what is left unknown over near bits, and what it is refused for, is one.
use Rattle.std.proofs.Common.{◌≡◌, ◌∙◌, ℕ, ◌-◌, false, List, length, Some, None, refl, sym, ap, subst, arith, true≢false}
use Rattle.std.proofs.lemmas.List.{length-map}
use Rattle.law_lists.proofs.Options.{some_is}
use Rattle.smv_core.specs.declared.fault.Fault.{Fault}
use Rattle.smv_core.specs.declared.tree.Text.{Text}
use Rattle.smv_core.specs.declared.flat.Class.{Class}
use Rattle.smv_core.specs.declared.flat.Unit.{Unit as DesignUnit}
use Rattle.smv_parse.specs.Laws.{IsNotBoth, IsOneFault}
use Rattle.smv_bits.specs.declared.Bits.{Bits}
use Rattle.smv_bits.specs.declared.Bits.TheVariants.{Near, Declared}
use Rattle.smv_problem.specs.Written.{written_state}
use Rattle.smv_problem.specs.declared.problem.AbsState.{AbsState as StateData}
use Rattle.smv_problem.specs.declared.report.Budgets.{Budgets}
use Rattle.smv_problem.specs.declared.report.Verdict.{Verdict}
use Rattle.smv_problem.specs.declared.report.Verdict.TheVariants as verdict
use Rattle.smv_command.specs.declared.commands.Command.TheVariants.{Confirm}
use Rattle.smv_command.specs.declared.exit.Status.{Status}
use Rattle.smv_command.specs.declared.exit.Status.TheVariants as status
use Rattle.law_events.specs.Events.Event.{Reached}
use Rattle.law_obligations.specs.Readings.{PosedCase}
use Rattle.law_reports.specs.Told.{IsToldBy}
use Rattle.law_reports.specs.Reports.{told}
use Rattle.law_reports.specs.Verdicts.{AreOne, IsVerdictFor, IsLeafVerdict, LeafVerdict, all_true, fails, is_unknown}
use Rattle.law_reports.proofs.Decided.{one_of_leaf}
use Rattle.law_valid_texts.specs.Joined.{flat_design}
use Rattle.law_valid_texts.specs.Faults.{pass_fault}
use Rattle.law_valid_texts.specs.Laws.{OneTree}
use Rattle.law_valid_texts.specs.Reports.{IsValid}
use Rattle.law_concrete.specs.Concrete.{concrete_case, concrete_cases}
use Rattle.law_concrete.specs.Sizes.{sizes_at, sizes_fault}
use Rattle.law_confirmed.specs.Answers.{IsConfirmed, IsUnitFault, unit_called, unnamed, unsized}
use Rattle.law_confirmed.specs.Confirmed.{IsToldAt}
use Rattle.law_document_answers.proofs.Verdicts.{verdict_is}
use Rattle.law_answers.specs.Confirmations.{confirmed_lines, confirmed_status}
use Rattle.law_answers.specs.Dues.{IsFault, faulty, is_false, malformed, of_unit, too_long}
use Rattle.law_answers.specs.Laws.{is_open}
use Rattle.law_answers.specs.OneAnswer.{shows_path}

-- ---- what is told

-- the verdict of a list of cases, without the path that is shown
told_leaf : (case_for : List Class → PosedCase) (bits : Bits) (nodes steps : ℕ) (cases : List (List Class)) (v : Verdict) → IsToldBy case_for bits nodes steps cases v → IsLeafVerdict (IsVerdictFor case_for bits nodes steps) cases (told v)
told_leaf case_for bits nodes steps cases verdict.True is = is
told_leaf case_for bits nodes steps cases (verdict.False case elements path) (k, fail, shown) =
    let long = shown.is_shortest.is_so_long in
    let written = ap (λ (xs : List StateData). length xs) shown.path_is ∙ length-map shown.states (written_state (case_for case.classes)) in
    let same : k ≡ length path - 1 = omega arith in
    subst (λ (n : ℕ). IsLeafVerdict (IsVerdictFor case_for bits nodes steps) cases (fails case.classes (Reached n))) same fail
told_leaf case_for bits nodes steps cases (verdict.UnknownNodes case count) is = is
told_leaf case_for bits nodes steps cases (verdict.UnknownSteps case) is = is

-- the status by what is told
abbrev status_told : LeafVerdict → Status
status_told all_true = status.HoldsHere
status_told (fails classes (Reached k)) = status.Real
status_told (fails classes _) = status.SomeUnknown

status_is : (v : Verdict) → confirmed_status v ≡ status_told (told v)
status_is verdict.True = refl
status_is (verdict.False case elements path) = refl
status_is (verdict.UnknownNodes case count) = refl
status_is (verdict.UnknownSteps case) = refl

pub same_status_of : (v w : Verdict) → told v ≡ told w → confirmed_status v ≡ confirmed_status w
same_status_of v w same = status_is v ∙ (ap status_told same ∙ sym (status_is w))

-- what is told where it is not left open is known
known : (v : Verdict) → is_open Near (confirmed_status v) ≡ false → is_unknown (told v) ≡ false
known verdict.True e = refl
known (verdict.False case elements path) e = refl
known (verdict.UnknownNodes case count) e = absurd (true≢false e)
known (verdict.UnknownSteps case) e = absurd (true≢false e)

-- so two verdicts tell the same where neither leaves it open
pub told_known : (bits : Bits) (v w : Verdict) → AreOne bits (told v) (told w) → is_open bits (confirmed_status v) ≡ false → is_open bits (confirmed_status w) ≡ false → told v ≡ told w
told_known Declared v w same p q = same
told_known Near v w one p q = one (known v p) (known w q)

-- where no path is shown the verdict is not false
unfalse : (v : Verdict) → shows_path (confirmed_status v) ≡ false → is_false v ≡ false
unfalse verdict.True e = refl
unfalse (verdict.False case elements path) e = absurd (true≢false e)
unfalse (verdict.UnknownNodes case count) e = refl
unfalse (verdict.UnknownSteps case) e = refl

-- ---- what a unit is refused for

pub text_of_fault : (text name given : List ℕ) (number at : ℕ) → IsUnitFault text name given number at → (tree : Text) × IsValid text tree
text_of_fault text name given _ _ (unnamed tree valid none) = (tree, valid)
text_of_fault text name given _ _ (unsized tree unit fault valid called found) = (tree, valid)

never : {X : Type 0} {x : X} {Y : Type 0} → None ≡ Some x → Y
never e = let bad : ⊥ = cc in absurd bad

module _ (one_tree : OneTree) where
  same_tree : (text : List ℕ) (tree other : Text) → IsValid text tree → IsValid text other → tree ≡ other
  same_tree text tree other valid valid_too = one_tree text tree other valid.is_tree valid_too.is_tree

  -- one name calls one unit
  same_unit : (name : List ℕ) (tree other : Text) (unit unit_too : DesignUnit) → tree ≡ other → unit_called (flat_design tree) name ≡ Some unit → unit_called (flat_design other) name ≡ Some unit_too → unit ≡ unit_too
  same_unit name tree other unit unit_too trees called called_too = some_is (sym called ∙ (ap (λ (t : Text). unit_called (flat_design t) name) trees ∙ called_too))

  pub one_unit_fault : (text name given : List ℕ) (number other at place : ℕ) → IsUnitFault text name given number at → IsUnitFault text name given other place → (number ≡ other) × (at ≡ place)
  one_unit_fault text name given _ _ _ _ (unnamed tree valid none) (unnamed tree_too valid_too none_too) = (refl, refl)
  one_unit_fault text name given _ _ _ _ (unnamed tree valid none) (unsized tree_too unit fault valid_too called found) =
      never (sym none ∙ (ap (λ (t : Text). unit_called (flat_design t) name) (same_tree text tree tree_too valid valid_too) ∙ called))
  one_unit_fault text name given _ _ _ _ (unsized tree unit fault valid called found) (unnamed tree_too valid_too none) =
      never (sym none ∙ (ap (λ (t : Text). unit_called (flat_design t) name) (same_tree text tree_too tree valid_too valid) ∙ called))
  one_unit_fault text name given _ _ _ _ (unsized tree unit fault valid called found) (unsized tree_too unit_too fault_too valid_too called_too found_too) =
      let trees = same_tree text tree tree_too valid valid_too in
      let units = same_unit name tree tree_too unit unit_too trees called called_too in
      let same : fault ≡ fault_too = some_is (sym found ∙ ((λ i. sizes_fault (flat_design (trees i)) (units i) given) ∙ found_too)) in
      (ap (λ (f : Fault). f.number) same, ap (λ (f : Fault). f.at) same)

  -- ---- what is told is told once

  pub told_once : (text name given : List ℕ) (bits : Bits) (nodes steps : ℕ) (v w : Verdict) → IsConfirmed text name given bits nodes steps v → IsConfirmed text name given bits nodes steps w → AreOne bits (told v) (told w)
  told_once text name given bits nodes steps v w is is_too =
      let trees = same_tree text is.tree is_too.tree is.is_valid is_too.is_valid in
      let units = same_unit name is.tree is_too.tree is.unit is_too.unit trees is.is_called is_too.is_called in
      let d = flat_design is_too.tree in
      let at_too : IsToldAt d (sizes_at d.sets given) is_too.unit bits nodes steps v =
      subst (λ (p : Text × DesignUnit). IsToldAt (flat_design p.0) (sizes_at (flat_design p.0).sets given) p.1 bits nodes steps v) (λ i. (trees i, units i)) is.is_told in
      let case_for = concrete_case d (sizes_at d.sets given) is_too.unit in
      let cases = concrete_cases d (sizes_at d.sets given) is_too.unit in
      one_of_leaf case_for nodes steps bits cases (told v) (told w) (told_leaf case_for bits nodes steps cases v at_too) (told_leaf case_for bits nodes steps cases w is_too.is_told)

  pub same_lines : (text name : List ℕ) (tree other : Text) (unit unit_too : DesignUnit) (v w : Verdict) → IsValid text tree → IsValid text other → unit_called (flat_design tree) name ≡ Some unit →
      unit_called (flat_design other) name ≡ Some unit_too → told v ≡ told w → shows_path (confirmed_status v) ≡ false → confirmed_lines (flat_design tree) unit name v ≡ confirmed_lines (flat_design other) unit_too name w
  same_lines text name tree other unit unit_too v w valid valid_too called called_too same hidden =
      let trees = same_tree text tree other valid valid_too in
      let units = same_unit name tree other unit unit_too trees called called_too in
      let verdicts = verdict_is v w same (unfalse v hidden) in
      λ i. confirmed_lines (flat_design (trees i)) (units i) name (verdicts i)

-- ---- not both

module _ (not_both : IsNotBoth) (one_fault : IsOneFault) (one_tree : OneTree) where
  not_unit_fault : (text name given : List ℕ) (bits : Bits) (nodes steps : ℕ) (v : Verdict) (number at : ℕ) → IsConfirmed text name given bits nodes steps v → IsUnitFault text name given number at → ⊥
  not_unit_fault text name given bits nodes steps v _ _ is (unnamed tree valid none) =
      never (sym none ∙ (ap (λ (t : Text). unit_called (flat_design t) name) (same_tree one_tree text tree is.tree valid is.is_valid) ∙ is.is_called))
  not_unit_fault text name given bits nodes steps v _ _ is (unsized tree unit fault valid called found) =
      let trees = same_tree one_tree text is.tree tree is.is_valid valid in
      let units = same_unit one_tree name is.tree tree is.unit unit trees is.is_called called in
      never (sym is.is_taken ∙ ((λ i. sizes_fault (flat_design (trees i)) (units i) given) ∙ found))

  -- what is told of a unit's text has no fault
  pub not_confirmed : (text name given : List ℕ) (bits : Bits) (budgets : Budgets) (v : Verdict) (number at : ℕ) → IsConfirmed text name given bits budgets.nodes budgets.steps v → IsFault (Confirm name given bits budgets) text number at → ⊥
  not_confirmed text name given bits budgets v _ _ is (too_long long) =
      let within = is.is_valid.is_tree.within in
      omega (arith, long, within)
  not_confirmed text name given bits budgets v _ _ is (malformed number at within fault) = not_both text is.tree number at is.is_valid.is_tree.spelled fault
  not_confirmed text name given bits budgets v _ _ is (faulty tree fault deciding is_tree found) =
      let same = sym found ∙ (ap pass_fault (one_tree text tree is.tree is_tree is.is_valid.is_tree) ∙ is.is_valid.is_faultless) in
      never (sym same)
  not_confirmed text name given bits budgets v _ _ is (of_unit _ _ _ _ number at fault) = not_unit_fault text name given bits budgets.nodes budgets.steps v number at is fault
