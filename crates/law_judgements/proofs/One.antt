-- Bytes are judged in one way.
use Rattle.std.proofs.Common.{◌≡◌, ◌∙◌, ◌⊎◌, inl, inr, ℕ, suc, List, [], ◌∷◌, length, true, false, refl, sym, ap, subst, arith, true≢false}
use Rattle.law_lists.proofs.Options.{some_is}
use Rattle.smv_core.specs.declared.tree.Text.{Text}
use Rattle.smv_core.specs.declared.fault.Fault.{Fault}
use Rattle.smv_parse.specs.Laws.{IsNotBoth, IsOneFault}
use Rattle.law_valid_texts.specs.Faults.{pass_fault}
use Rattle.law_valid_texts.specs.Reports.{IsValid}
use Rattle.law_valid_texts.specs.Laws.{OneTree}
use Rattle.smv_proof.specs.declared.proof.KeptSet.{KeptSet}
use Rattle.smv_proof.specs.declared.proof.Proof.{Proof}
use Rattle.smv_proof.specs.Documents.{Spells}
use Rattle.smv_proof.specs.Laws.{OneProof}
use Rattle.law_checked_proofs.specs.Cases.{UnitCase, cases_of}
use Rattle.law_checked_proofs.specs.Checked.{are_for, are_within, AllMeet, IsChecked}
use Rattle.law_judgements.specs.Judgements.{FailsAt, IsFaultOf, too_long, malformed, faulty, Judgement, IsJudged, not_spelled, has_fault, not_for, not_within, fails, checked}
use Rattle.law_judgements.specs.Judgements.Judgement.{yes, form, design, set}

-- ---- sets

fails_once : (k : ℕ) (cases : List UnitCase) (sets : List KeptSet) (n m : ℕ) → FailsAt k cases sets n → FailsAt k cases sets m → n ≡ m
fails_once k [] sets n m a b = absurd a
fails_once k (c ∷ cases) [] n m a b = absurd a
fails_once k (c ∷ cases) (x ∷ sets) n m (inl (e, not_so)) (inl (f, not_so_too)) = e ∙ sym f
fails_once k (c ∷ cases) (x ∷ sets) n m (inl (e, not_so)) (inr (meets, more)) = absurd (not_so meets)
fails_once k (c ∷ cases) (x ∷ sets) n m (inr (meets, more)) (inl (f, not_so)) = absurd (not_so meets)
fails_once k (c ∷ cases) (x ∷ sets) n m (inr (meets, more)) (inr (meets_too, more_too)) = fails_once (suc k) cases sets n m more more_too

fails_none : (k : ℕ) (cases : List UnitCase) (sets : List KeptSet) (n : ℕ) → AllMeet cases sets → FailsAt k cases sets n → ⊥
fails_none k [] sets n all a = a
fails_none k (c ∷ cases) [] n all a = a
fails_none k (c ∷ cases) (x ∷ sets) n all (inl (e, not_so)) = not_so all.0
fails_none k (c ∷ cases) (x ∷ sets) n all (inr (meets, more)) = fails_none (suc k) cases sets n all.1 more

-- ---- designs

module _ (not_both : IsNotBoth) (one_fault : IsOneFault) (one_tree : OneTree) where
  pub no_fault : (text : List ℕ) (tree : Text) (number at : ℕ) → IsValid text tree → IsFaultOf text number at → ⊥
  no_fault text tree _ _ valid (too_long long) = let within = valid.is_tree.within in absurd (omega (arith, long, within))
  no_fault text tree _ _ valid (malformed number at within fault) = not_both text tree number at valid.is_tree.spelled fault
  no_fault text tree _ _ valid (faulty other fault is found) =
      let both = sym found ∙ (ap pass_fault (one_tree text other tree is valid.is_tree) ∙ valid.is_faultless) in
      let bad : ⊥ = cc in
      bad

  pub same_fault : (text : List ℕ) (number other at place : ℕ) → IsFaultOf text number at → IsFaultOf text other place → (number ≡ other) × (at ≡ place)
  same_fault text _ _ _ _ (too_long long) (too_long longer) = (refl, refl)
  same_fault text _ _ _ _ (too_long long) (malformed other place within fault) = absurd (omega (arith, long, within))
  same_fault text _ _ _ _ (too_long long) (faulty tree fault is found) = let within = is.within in absurd (omega (arith, long, within))
  same_fault text _ _ _ _ (malformed number at within fault) (too_long long) = absurd (omega (arith, long, within))
  same_fault text _ _ _ _ (malformed number at within fault) (malformed other place within_too fault_too) = one_fault text number other at place fault fault_too
  same_fault text _ _ _ _ (malformed number at within fault) (faulty tree f is found) = absurd (not_both text tree number at is.spelled fault)
  same_fault text _ _ _ _ (faulty tree f is found) (too_long long) = let within = is.within in absurd (omega (arith, long, within))
  same_fault text _ _ _ _ (faulty tree f is found) (malformed other place within fault) = absurd (not_both text tree other place is.spelled fault)
  same_fault text _ _ _ _ (faulty tree f is found) (faulty other g is_other found_other) =
      let same : f ≡ g = some_is (sym found ∙ (ap pass_fault (one_tree text tree other is is_other) ∙ found_other)) in
      (ap (λ (x : Fault). x.number) same, ap (λ (x : Fault). x.at) same)

  -- ---- what is judged, of one proof

  module _ (one_proof : OneProof) where
    -- what a judgement says of the proof that the bytes spell
    abbrev Says : Proof → Judgement → Type 0
    Says proof form = (tree : Text) × IsValid proof.design tree × ((are_for (cases_of tree) proof.sets ≡ false) ⊎ ((are_for (cases_of tree) proof.sets ≡ true) × (are_within (cases_of tree) proof.sets ≡ false)))
    Says proof (design number at) = IsFaultOf proof.design number at
    Says proof (set k) = (tree : Text) × IsValid proof.design tree × ((are_for (cases_of tree) proof.sets ≡ true) × (are_within (cases_of tree) proof.sets ≡ true) × FailsAt 1 (cases_of tree) proof.sets k)
    Says proof (yes n) = IsChecked proof × (n ≡ length proof.sets)

    said : (bytes : List ℕ) (proof : Proof) (j : Judgement) → Spells bytes proof → IsJudged bytes j → Says proof j
    said bytes proof _ spells (not_spelled none) = absurd (none proof spells)
    said bytes proof _ spells (has_fault other number at spells_too fault) = subst (λ (p : Proof). IsFaultOf p.design number at) (one_proof bytes other proof spells_too spells) fault
    said bytes proof _ spells (not_for other tree spells_too valid is) =
        subst (λ (p : Proof). Says p form) (one_proof bytes other proof spells_too spells) (tree, valid, inl is)
    said bytes proof _ spells (not_within other tree spells_too valid named is) =
        subst (λ (p : Proof). Says p form) (one_proof bytes other proof spells_too spells) (tree, valid, inr (named, is))
    said bytes proof _ spells (fails other tree k spells_too valid named within is) =
        subst (λ (p : Proof). Says p (set k)) (one_proof bytes other proof spells_too spells) (tree, valid, (named, within, is))
    said bytes proof _ spells (checked other spells_too is) =
        subst (λ (p : Proof). Says p (yes (length other.sets))) (one_proof bytes other proof spells_too spells) (is, refl)

    same_tree : (text : List ℕ) (tree other : Text) → IsValid text tree → IsValid text other → other ≡ tree
    same_tree text tree other valid valid_too = one_tree text other tree valid_too.is_tree valid.is_tree

    -- the form is refused, and yet it is right
    form_not : (proof : Proof) (tree : Text) → Says proof form → IsValid proof.design tree → are_for (cases_of tree) proof.sets ≡ true → are_within (cases_of tree) proof.sets ≡ true → ⊥
    form_not proof tree (other, valid_too, inl not_so) valid named within =
        true≢false (sym named ∙ subst (λ (t : Text). are_for (cases_of t) proof.sets ≡ false) (same_tree proof.design tree other valid valid_too) not_so)
    form_not proof tree (other, valid_too, inr (named_too, not_so)) valid named within =
        true≢false (sym within ∙ subst (λ (t : Text). are_within (cases_of t) proof.sets ≡ false) (same_tree proof.design tree other valid valid_too) not_so)

    one_said : (proof : Proof) (j i : Judgement) → Says proof j → Says proof i → j ≡ i
    one_said proof form form a b = refl
    one_said proof form (design number at) a b = absurd (no_fault proof.design a.0 number at a.1 b)
    one_said proof form (set k) a b = absurd (form_not proof b.0 a b.1 b.2.0 b.2.1)
    one_said proof form (yes n) a b = absurd (form_not proof b.0.tree a b.0.is_valid b.0.are_for b.0.are_within)
    one_said proof (design number at) form a b = absurd (no_fault proof.design b.0 number at b.1 a)
    one_said proof (design number at) (design other place) a b = let r = same_fault proof.design number other at place a b in λ i. design (r.0 i) (r.1 i)
    one_said proof (design number at) (set k) a b = absurd (no_fault proof.design b.0 number at b.1 a)
    one_said proof (design number at) (yes n) a b = absurd (no_fault proof.design b.0.tree number at b.0.is_valid a)
    one_said proof (set k) form a b = absurd (form_not proof a.0 b a.1 a.2.0 a.2.1)
    one_said proof (set k) (design number at) a b = absurd (no_fault proof.design a.0 number at a.1 b)
    one_said proof (set k) (set j) a b =
        ap set (fails_once 1 (cases_of a.0) proof.sets k j a.2.2 (subst (λ (t : Text). FailsAt 1 (cases_of t) proof.sets j) (same_tree proof.design a.0 b.0 a.1 b.1) b.2.2))
    one_said proof (set k) (yes n) a b =
        absurd (fails_none 1 (cases_of a.0) proof.sets k (subst (λ (t : Text). AllMeet (cases_of t) proof.sets) (same_tree proof.design a.0 b.0.tree a.1 b.0.is_valid) b.0.all_meet) a.2.2)
    one_said proof (yes n) form a b = absurd (form_not proof a.0.tree b a.0.is_valid a.0.are_for a.0.are_within)
    one_said proof (yes n) (design number at) a b = absurd (no_fault proof.design a.0.tree number at a.0.is_valid b)
    one_said proof (yes n) (set k) a b =
        absurd (fails_none 1 (cases_of b.0) proof.sets k (subst (λ (t : Text). AllMeet (cases_of t) proof.sets) (same_tree proof.design b.0 a.0.tree b.1 a.0.is_valid) a.0.all_meet) b.2.2)
    one_said proof (yes n) (yes m) a b = ap yes (a.1 ∙ sym b.1)

    -- where the bytes spell a proof
    spelled : (bytes : List ℕ) (j i : Judgement) → (proof : Proof) → Spells bytes proof → IsJudged bytes j → IsJudged bytes i → j ≡ i
    spelled bytes j i proof spells a b = one_said proof j i (said bytes proof j spells a) (said bytes proof i spells b)

    pub one_judged : (bytes : List ℕ) (j i : Judgement) → IsJudged bytes j → IsJudged bytes i → j ≡ i
    one_judged bytes _ _ (not_spelled none) (not_spelled none_too) = refl
    one_judged bytes _ i (not_spelled none) (has_fault proof number at spells fault) = absurd (none proof spells)
    one_judged bytes _ i (not_spelled none) (not_for proof tree spells valid is) = absurd (none proof spells)
    one_judged bytes _ i (not_spelled none) (not_within proof tree spells valid named is) = absurd (none proof spells)
    one_judged bytes _ i (not_spelled none) (fails proof tree k spells valid named within is) = absurd (none proof spells)
    one_judged bytes _ i (not_spelled none) (checked proof spells is) = absurd (none proof spells)
    one_judged bytes j i (has_fault proof number at spells fault) b = spelled bytes j i proof spells (has_fault proof number at spells fault) b
    one_judged bytes j i (not_for proof tree spells valid is) b = spelled bytes j i proof spells (not_for proof tree spells valid is) b
    one_judged bytes j i (not_within proof tree spells valid named is) b = spelled bytes j i proof spells (not_within proof tree spells valid named is) b
    one_judged bytes j i (fails proof tree k spells valid named within is) b = spelled bytes j i proof spells (fails proof tree k spells valid named within is) b
    one_judged bytes j i (checked proof spells is) b = spelled bytes j i proof spells (checked proof spells is) b

-- the one way to yes
pub yes_is : (bytes : List ℕ) (n : ℕ) → IsJudged bytes (yes n) → (proof : Proof) × Spells bytes proof × IsChecked proof
yes_is bytes n (checked proof spells is) = (proof, spells, is)
