-- What the check of a document answers.
use Rattle.std.specs.Prelude.{◌≡◌, ◌≤◌, ◌<◌, ◌⊎◌, ℕ, suc, true, false, List, ◌∷◌, length, Some}
use Rattle.smv_core.specs.declared.tree.Text.{Text}
use Rattle.smv_core.specs.declared.fault.Fault.{Fault}
use Rattle.law_valid_texts.specs.Plans.{limit, IsTree}
use Rattle.law_valid_texts.specs.Faults.{pass_fault}
use Rattle.law_valid_texts.specs.Reports.{IsValid}
use Rattle.smv_parse.specs.Spelling.{HasFault}
use Rattle.smv_proof.specs.declared.proof.KeptSet.{KeptSet}
use Rattle.smv_proof.specs.declared.proof.Proof.{Proof}
use Rattle.smv_proof.specs.Documents.{Spells, SpellsNone}
use Rattle.law_checked_proofs.specs.Cases.{UnitCase, cases_of}
use Rattle.law_checked_proofs.specs.Checked.{are_for, are_within, Meets, IsChecked}

-- the set of this number, counted from k, is the first that does not meet the four conditions of induction
abbrev pub FailsAt : ℕ → List UnitCase → List KeptSet → ℕ → Type 0
FailsAt k (c ∷ cases) (set ∷ sets) n = ((n ≡ k) × (Meets c.case set → ⊥)) ⊎ (Meets c.case set × FailsAt (suc k) cases sets n)
FailsAt k _ _ n = ⊥

-- the first fault of a design: its length, or else its form, or else that of the earliest pass that finds one
pub data IsFaultOf : List ℕ → ℕ → ℕ → Type 0 where
  too_long : {text : List ℕ} → limit < length text → IsFaultOf text 31 0
  malformed : {text : List ℕ} (number at : ℕ) → length text ≤ limit → HasFault text number at → IsFaultOf text number at
  faulty : {text : List ℕ} (tree : Text) (fault : Fault) → IsTree text tree → pass_fault tree ≡ Some fault → IsFaultOf text fault.number fault.at

-- what is answered of bytes: so many sets are checked, the bytes are not of the form of a document for their design, the design has a fault, or the set of a number, from 1, fails
pub data Judgement : Type 0 where
  yes : ℕ → Judgement
  form : Judgement
  design : ℕ → ℕ → Judgement
  set : ℕ → Judgement

-- what is answered of bytes: the first of these that applies, in this order
pub data IsJudged : List ℕ → Judgement → Type 0 where
  not_spelled : {bytes : List ℕ} → SpellsNone bytes → IsJudged bytes form
  has_fault : {bytes : List ℕ} (proof : Proof) (number at : ℕ) → Spells bytes proof → IsFaultOf proof.design number at → IsJudged bytes (design number at)
  not_for : {bytes : List ℕ} (proof : Proof) (tree : Text) → Spells bytes proof → IsValid proof.design tree → are_for (cases_of tree) proof.sets ≡ false → IsJudged bytes form
  not_within : {bytes : List ℕ} (proof : Proof) (tree : Text) → Spells bytes proof → IsValid proof.design tree → are_for (cases_of tree) proof.sets ≡ true →
      are_within (cases_of tree) proof.sets ≡ false → IsJudged bytes form
  fails : {bytes : List ℕ} (proof : Proof) (tree : Text) (k : ℕ) → Spells bytes proof → IsValid proof.design tree → are_for (cases_of tree) proof.sets ≡ true →
      are_within (cases_of tree) proof.sets ≡ true → FailsAt 1 (cases_of tree) proof.sets k → IsJudged bytes (set k)
  checked : {bytes : List ℕ} (proof : Proof) → Spells bytes proof → IsChecked proof → IsJudged bytes (yes (length proof.sets))
