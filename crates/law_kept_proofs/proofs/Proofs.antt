-- What is kept of a valid text keeps the rules of a document.
use Rattle.std.proofs.Common.{◌≡◌, ◌∙◌, inl, inr, ℕ, ◌+◌, ◌*◌, ◌<◌, ◌≤◌, List, [], ◌∷◌, length, Option, Some, None, Bool, true, false, if◌then◌else◌, nat_le, refl, sym, ap, subst, arith}
use Rattle.std.specs.List.{list_all}
use Rattle.law_lists.proofs.Booleans.{and_both, left_of, right_of}
use Rattle.law_lists.proofs.Numbers.{nat_le-true}
use Rattle.law_lists.proofs.Options.{some_is}
use Rattle.smv_core.specs.declared.tree.Text.{Text}
use Rattle.smv_rings.specs.Lists.{IsLists}
use Rattle.smv_rings.specs.Schedule.{ring}
use Rattle.smv_rings.proofs.Rings.{ring_facts}
use Rattle.law_obligations.specs.Sets.{Has, first, later}
use Rattle.law_obligations.specs.Readings.{state_bits}
use Rattle.law_reports.specs.CaseLists.{case_lists}
use Rattle.law_reports.specs.ListLaws.{CaseListsAreLists}
use Rattle.law_valid_texts.specs.Reports.{IsValid}
use Rattle.smv_proof.specs.declared.proof.KeptSet.{KeptSet}
use Rattle.smv_proof.specs.declared.proof.Proof.{Proof}
use Rattle.smv_proof.specs.Documents.{most, is_name, is_set, is_proof}
use Rattle.smv_proof.specs.Laws.{KeptSetsAreSets}
use Rattle.law_checked_proofs.specs.Cases.{UnitCase, cases_of}
use Rattle.law_checked_proofs.specs.Checked.{is_for}
use Rattle.law_checked_proofs.specs.Kept.{IsKept, AreKept, IsProofOf}
use Rattle.law_checked_proofs.specs.Resumed.{old_set, IsSetOf, AreSetsOf, IsResumedProof}
use Rattle.law_kept_proofs.specs.Laws.{UnitNamesAreNames, CasesAreSmall, HaveFewLines}

-- a case that is named and numbered as a document does it
pub record IsSmall (c : UnitCase) : Type 0 where
  pub named : is_name c.unit ≡ true
  pub number : c.number < 4096
  pub bits : state_bits c.case ≤ 1024

module _ (sets_are : KeptSetsAreSets) (lists_are : CaseListsAreLists) (nodes images : ℕ) where
  kept_is : (c : UnitCase) (set : KeptSet) → IsSmall c → IsKept nodes images c set → length set.nodes < most → is_set set ≡ true
  unfolding case_lists
  kept_is c set small kept few =
      let f = ring (case_lists c.case) kept.rings in
      let facts = ring_facts (case_lists c.case) (lists_are c.case) kept.rings in
      let bits = small.bits in
      let number = small.number in
      subst (λ (x : KeptSet). is_set x ≡ true) (sym kept.is_kept)
      (sets_are (2 * state_bits c.case) f (omega (arith, bits)) facts.1 c.unit small.named c.number (omega (arith, number)) (subst (λ (x : KeptSet). length x.nodes < most) kept.is_kept few))

  old_is : (c : UnitCase) (old : List KeptSet) (set : KeptSet) → list_all is_set old ≡ true → old_set c old ≡ Some set → is_set set ≡ true
  old_is c [] set all e = absurd (cc (e))
  old_is c (x ∷ old) set all e = by_test (is_for c x) e (λ f. old_is c old set (right_of (is_set x) (list_all is_set old) all) f)
    where
      by_test : (t : Bool) → (if t then Some x else old_set c old) ≡ Some set → (old_set c old ≡ Some set → is_set set ≡ true) → is_set set ≡ true
      by_test true e goes = subst (λ (y : KeptSet). is_set y ≡ true) (some_is e) (left_of (is_set x) (list_all is_set old) all)
      by_test false e goes = goes e

  pub all_kept : (cases : List UnitCase) (sets : List KeptSet) → ((c : UnitCase) → Has cases c → IsSmall c) → AreKept nodes images cases sets → HaveFewLines sets → list_all is_set sets ≡ true
  all_kept [] [] small all few = refl
  all_kept [] (set ∷ sets) small all few = absurd all
  all_kept (c ∷ cases) [] small all few = absurd all
  all_kept (c ∷ cases) (set ∷ sets) small all few =
      and_both (kept_is c set (small c first) all.0 (few set first)) (all_kept cases sets (λ d h. small d (later h)) all.1 (λ s h. few s (later h)))

  pub all_resumed : (old : List KeptSet) → list_all is_set old ≡ true → (cases : List UnitCase) (sets : List KeptSet) → ((c : UnitCase) → Has cases c → IsSmall c) → AreSetsOf old nodes images cases sets → HaveFewLines sets →
      list_all is_set sets ≡ true
  all_resumed old are [] [] small all few = refl
  all_resumed old are [] (set ∷ sets) small all few = absurd all
  all_resumed old are (c ∷ cases) [] small all few = absurd all
  all_resumed old are (c ∷ cases) (set ∷ sets) small (is, all) few = and_both (one is) (all_resumed old are cases sets (λ d h. small d (later h)) all (λ s h. few s (later h)))
    where
      one : IsSetOf old nodes images c set → is_set set ≡ true
      one (inl (is_old, serves)) = old_is c old set are is_old
      one (inr (new, kept)) = kept_is c set (small c first) kept (few set first)

pub is_within : (text : List ℕ) (tree : Text) (design : List ℕ) → IsValid text tree → design ≡ text → nat_le (length design) most ≡ true
is_within text tree design valid same =
    let within = valid.is_tree.within in
    subst (λ (t : List ℕ). nat_le (length t) most ≡ true) (sym same) (nat_le-true (length text) most (omega (arith, within)))
