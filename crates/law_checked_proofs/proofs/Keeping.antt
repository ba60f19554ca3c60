-- What is kept of a case serves for it, and is one.
use Rattle.std.proofs.Common.{◌≡◌, ◌∙◌, inl, inr, ℕ, ◌*◌, List, [], ◌∷◌, Some, Bool, true, false, if◌then◌else◌, refl, sym, ap, subst, arith}
use Rattle.std.specs.Str.{bytes_eq}
use Rattle.std.proofs.lemmas.Slice.Eq.{bytes_eq-Decides}
use Rattle.law_lists.proofs.Booleans.{and_both}
use Rattle.law_lists.proofs.Options.{some_is}
use Rattle.smv_rings.specs.Paths.{IsInductive}
use Rattle.smv_rings.specs.Schedule.{ring}
use Rattle.smv_rings.proofs.Rings.{ring_facts}
use Rattle.law_events.specs.Events.{IsFirstEvent}
use Rattle.law_events.specs.Events.Event.{Shut}
use Rattle.law_events.specs.Laws.{OneVerdict}
use Rattle.law_events.proofs.Meaning.{true_means}
use Rattle.law_obligations.specs.Readings.{PosedCase, state_bits}
use Rattle.law_reports.specs.CaseLists.{case_lists}
use Rattle.law_reports.proofs.Below.{are_lists}
use Rattle.smv_proof.specs.declared.proof.KeptSet.{KeptSet}
use Rattle.smv_proof.specs.Meanings.{meaning, is_below}
use Rattle.smv_proof.specs.Kept.{kept_set}
use Rattle.smv_proof.specs.Laws.{KeptSetsMean, KeptSetsAreBelow}
use Rattle.law_checked_proofs.specs.Cases.{UnitCase}
use Rattle.law_checked_proofs.specs.Checked.{is_for, are_for, are_within, Meets, AllMeet}
use Rattle.law_checked_proofs.specs.Kept.{IsKept, AreKept}
use Rattle.law_checked_proofs.specs.Resumed.{old_set, Stands, IsSetOf, AreSetsOf}

same_bytes : (xs : List ℕ) → bytes_eq xs xs ≡ true
same_bytes xs = (bytes_eq-Decides xs xs).1 refl

-- the set is one of the case, over its bits, and meets the four conditions
pub record IsGood (c : UnitCase) (set : KeptSet) : Type 0 where
  pub of_case : is_for c set ≡ true
  pub within : is_below (2 * state_bits c.case) set ≡ true
  pub meets : Meets c.case set

abbrev pub AllGood : List UnitCase → List KeptSet → Type 0
AllGood [] [] = Unit {0}
AllGood (c ∷ cases) (set ∷ sets) = IsGood c set × AllGood cases sets
AllGood _ _ = ⊥

pub good_for : (cases : List UnitCase) (sets : List KeptSet) → AllGood cases sets → are_for cases sets ≡ true
good_for [] [] all = refl
good_for [] (set ∷ sets) all = absurd all
good_for (c ∷ cases) [] all = absurd all
good_for (c ∷ cases) (set ∷ sets) all = and_both all.0.of_case (good_for cases sets all.1)

pub good_within : (cases : List UnitCase) (sets : List KeptSet) → AllGood cases sets → are_within cases sets ≡ true
good_within [] [] all = refl
good_within [] (set ∷ sets) all = absurd all
good_within (c ∷ cases) [] all = absurd all
good_within (c ∷ cases) (set ∷ sets) all = and_both all.0.within (good_within cases sets all.1)

pub good_meet : (cases : List UnitCase) (sets : List KeptSet) → AllGood cases sets → AllMeet cases sets
good_meet [] [] all = tt
good_meet [] (set ∷ sets) all = absurd all
good_meet (c ∷ cases) [] all = absurd all
good_meet (c ∷ cases) (set ∷ sets) all = (all.0.meets, good_meet cases sets all.1)

module _ (mean : KeptSetsMean) (below : KeptSetsAreBelow) (nodes images : ℕ) where
  -- the ring of a true case is met by the four conditions, and so is what is kept of it
  kept_meets : (c : PosedCase) (rings : ℕ) → IsFirstEvent (case_lists c) nodes images (Shut rings) → (unit : List ℕ) (number : ℕ) → IsInductive (case_lists c) (meaning (kept_set (2 * state_bits c) unit number (ring (case_lists c) rings)))
  unfolding case_lists
  kept_meets c rings shut unit number =
      let l = case_lists c in
      let inductive = (true_means l (record { vars = 2 * l.bits; nodes = nodes; images = images }) (are_lists c) images rings shut).0 in
      let facts = ring_facts l (are_lists c) rings in
      let same : ring l rings ≡ meaning (kept_set (2 * state_bits c) unit number (ring l rings)) = λ i a. sym (mean (2 * state_bits c) (ring l rings) facts.0 unit number a) i in
      subst (IsInductive l) same inductive

  pub kept_good : (c : UnitCase) (set : KeptSet) → IsKept nodes images c set → IsGood c set
  unfolding kept_set
  kept_good c set kept = subst (IsGood c) (sym kept.is_kept) good
    where
      good : IsGood c (kept_set (2 * state_bits c.case) c.unit c.number (ring (case_lists c.case) kept.rings))
      good = record {
        of_case = and_both (same_bytes c.unit) (grind arith);
        within = below (2 * state_bits c.case) (ring (case_lists c.case) kept.rings) c.unit c.number;
        meets = kept_meets c.case kept.rings kept.is_shut c.unit c.number;
      }

  pub all_kept_good : (cases : List UnitCase) (sets : List KeptSet) → AreKept nodes images cases sets → AllGood cases sets
  all_kept_good [] [] all = tt
  all_kept_good [] (set ∷ sets) all = absurd all
  all_kept_good (c ∷ cases) [] all = absurd all
  all_kept_good (c ∷ cases) (set ∷ sets) all = (kept_good c set all.0, all_kept_good cases sets all.1)

  -- ---- old sets

  old_is_for : (c : UnitCase) (old : List KeptSet) (set : KeptSet) → old_set c old ≡ Some set → is_for c set ≡ true
  old_is_for c [] set e = absurd (cc (e))
  old_is_for c (x ∷ old) set e = by_test (is_for c x) refl e (λ f. old_is_for c old set f)
    where
      by_test : (t : Bool) → is_for c x ≡ t → (if t then Some x else old_set c old) ≡ Some set → (old_set c old ≡ Some set → is_for c set ≡ true) → is_for c set ≡ true
      by_test true t e goes = subst (λ (y : KeptSet). is_for c y ≡ true) (some_is e) t
      by_test false t e goes = goes e

  pub resumed_good : (old : List KeptSet) (c : UnitCase) (set : KeptSet) → IsSetOf old nodes images c set → IsGood c set
  resumed_good old c set (inl (is_old, serves)) = record { of_case = old_is_for c old set is_old; within = serves.0; meets = serves.1 }
  resumed_good old c set (inr (new, kept)) = kept_good c set kept

  pub all_resumed_good : (old : List KeptSet) (cases : List UnitCase) (sets : List KeptSet) → AreSetsOf old nodes images cases sets → AllGood cases sets
  all_resumed_good old [] [] all = tt
  all_resumed_good old [] (set ∷ sets) all = absurd all
  all_resumed_good old (c ∷ cases) [] all = absurd all
  all_resumed_good old (c ∷ cases) (set ∷ sets) all = (resumed_good old c set all.0, all_resumed_good old cases sets all.1)

-- ---- one set

module _ (one_verdict : OneVerdict) (nodes images : ℕ) where
  one_kept : (c : UnitCase) (set other : KeptSet) → IsKept nodes images c set → IsKept nodes images c other → set ≡ other
  one_kept c set other kept kept_too =
      let same : kept.rings ≡ kept_too.rings = shut_is (one_verdict (case_lists c.case) nodes images (Shut kept.rings) (Shut kept_too.rings) kept.is_shut kept_too.is_shut) in
      kept.is_kept ∙ (ap (λ (k : ℕ). kept_set (2 * state_bits c.case) c.unit c.number (ring (case_lists c.case) k)) same ∙ sym kept_too.is_kept)
    where
      shut_is : {k j : ℕ} → Shut k ≡ Shut j → k ≡ j
      shut_is e = cc

  pub one_kept_each : (cases : List UnitCase) (sets others : List KeptSet) → AreKept nodes images cases sets → AreKept nodes images cases others → sets ≡ others
  one_kept_each [] [] [] a b = refl
  one_kept_each [] [] (y ∷ others) a b = absurd b
  one_kept_each [] (x ∷ sets) others a b = absurd a
  one_kept_each (c ∷ cases) [] others a b = absurd a
  one_kept_each (c ∷ cases) (x ∷ sets) [] a b = absurd b
  one_kept_each (c ∷ cases) (x ∷ sets) (y ∷ others) a b =
      ap (λ (z : KeptSet). z ∷ sets) (one_kept c x y a.0 b.0) ∙ ap (λ (zs : List KeptSet). y ∷ zs) (one_kept_each cases sets others a.1 b.1)

  one_resumed : (old : List KeptSet) (c : UnitCase) (set other : KeptSet) → IsSetOf old nodes images c set → IsSetOf old nodes images c other → set ≡ other
  one_resumed old c set other (inl (is_old, serves)) (inl (is_old_too, serves_too)) = some_is (sym is_old ∙ is_old_too)
  one_resumed old c set other (inl (is_old, serves)) (inr (new, kept)) = absurd (new (set, is_old, serves))
  one_resumed old c set other (inr (new, kept)) (inl (is_old, serves)) = absurd (new (other, is_old, serves))
  one_resumed old c set other (inr (new, kept)) (inr (new_too, kept_too)) = one_kept c set other kept kept_too

  pub one_resumed_each : (old : List KeptSet) (cases : List UnitCase) (sets others : List KeptSet) → AreSetsOf old nodes images cases sets → AreSetsOf old nodes images cases others → sets ≡ others
  one_resumed_each old [] [] [] a b = refl
  one_resumed_each old [] [] (y ∷ others) a b = absurd b
  one_resumed_each old [] (x ∷ sets) others a b = absurd a
  one_resumed_each old (c ∷ cases) [] others a b = absurd a
  one_resumed_each old (c ∷ cases) (x ∷ sets) [] a b = absurd b
  one_resumed_each old (c ∷ cases) (x ∷ sets) (y ∷ others) a b =
      ap (λ (z : KeptSet). z ∷ sets) (one_resumed old c x y a.0 b.0) ∙ ap (λ (zs : List KeptSet). y ∷ zs) (one_resumed_each old cases sets others a.1 b.1)

-- ---- without old sets

module _ (nodes images : ℕ) where
  pub nothing_to : (cases : List UnitCase) (sets : List KeptSet) → AreSetsOf [] nodes images cases sets → AreKept nodes images cases sets
  nothing_to [] [] all = tt
  nothing_to [] (set ∷ sets) all = absurd all
  nothing_to (c ∷ cases) [] all = absurd all
  nothing_to (c ∷ cases) (set ∷ sets) (inl (is_old, serves), all) = absurd (cc (is_old))
  nothing_to (c ∷ cases) (set ∷ sets) (inr (new, kept), all) = (kept, nothing_to cases sets all)

  pub nothing_from : (cases : List UnitCase) (sets : List KeptSet) → AreKept nodes images cases sets → AreSetsOf [] nodes images cases sets
  nothing_from [] [] all = tt
  nothing_from [] (set ∷ sets) all = absurd all
  nothing_from (c ∷ cases) [] all = absurd all
  nothing_from (c ∷ cases) (set ∷ sets) all = (inr ((λ stands. none_stands c stands), all.0), nothing_from cases sets all.1)
    where
      none_stands : (c : UnitCase) → Stands [] nodes images c → ⊥
      none_stands c (old, is_old, serves) = absurd (cc (is_old))
