-- A set of a document, and what follows from its test.
use Rattle.std.proofs.Common.{◌≡◌, ◌∙◌, ◌↔◌, ℕ, zero, suc, ◌+◌, Bool, true, false, Option, Some, None, IsTrue, List, [], ◌∷◌, is_some, refl, sym, subst, arith}
use Rattle.std.specs.List.{slice_get, list_all}
use Rattle.law_lists.proofs.Booleans.{left_of, right_of}
use Rattle.law_lists.proofs.Options.{some_is}
use Rattle.smv_proof.specs.declared.proof.KeptSet.{KeptSet}
use Rattle.smv_proof.specs.Documents.{is_set}
use Rattle.smv_check.specs.Progress.{Follows}

-- ---- what follows

pub follows_old : (holds : Type 0) (n : ℕ) (old : Option ℕ) → is_some old ≡ true → Follows holds n old old
follows_old holds n None e = absurd (cc (e))
follows_old holds n (Some k) e = refl

-- a test of a set, and the failure that follows
module _ (holds : Type 0) (n : ℕ) (old : Option ℕ) (none : is_some old ≡ false) (x : Bool) (means : IsTrue x ↔ holds) where
  pub follows_met : x ≡ true → Follows holds n old None
  follows_met is = by old none
    where
      by : (o : Option ℕ) → is_some o ≡ false → Follows holds n o None
      by None e = means.0 is
      by (Some k) e = absurd (cc (e))

  pub follows_failed : x ≡ false → Follows holds n old (Some (n + 1))
  follows_failed is = by old none
    where
      not_met : holds → ⊥
      not_met met = let clash : true ≡ false = sym (means.1 met) ∙ is in absurd (cc (clash))

      by : (o : Option ℕ) → is_some o ≡ false → Follows holds n o (Some (n + 1))
      by None e = (omega arith, not_met)
      by (Some k) e = absurd (cc (e))

-- ---- sets of a document

pub set_is : (sets : List KeptSet) (n : ℕ) (set : KeptSet) → list_all is_set sets ≡ true → slice_get sets n ≡ Some set → is_set set ≡ true
set_is [] n set all e = absurd (cc (e))
set_is (x ∷ sets) zero set all e = subst (λ (y : KeptSet). is_set y ≡ true) (some_is e) (left_of (is_set x) (list_all is_set sets) all)
set_is (x ∷ sets) (suc n) set all e = set_is sets n set (right_of (is_set x) (list_all is_set sets) all) e
