-- The proof of a text whose cases are all true.
use Rattle.std.specs.Prelude.{◌≡◌, ℕ, ◌*◌, List, [], ◌∷◌}
use Rattle.smv_core.specs.declared.tree.Text.{Text}
use Rattle.smv_rings.specs.Schedule.{ring}
use Rattle.law_events.specs.Events.{IsFirstEvent}
use Rattle.law_events.specs.Events.Event.{Shut}
use Rattle.law_obligations.specs.Readings.{state_bits}
use Rattle.law_reports.specs.CaseLists.{case_lists}
use Rattle.law_valid_texts.specs.Reports.{IsValid}
use Rattle.smv_proof.specs.declared.proof.KeptSet.{KeptSet}
use Rattle.smv_proof.specs.declared.proof.Proof.{Proof}
use Rattle.smv_proof.specs.Kept.{kept_set}
use Rattle.law_checked_proofs.specs.Cases.{UnitCase, cases_of}

-- for budgets of nodes and of images
module _ (nodes images : ℕ) where
  -- the case is true, and this is kept of the ring that equals the next one
  pub record IsKept (c : UnitCase) (set : KeptSet) : Type 0 where
    pub rings : ℕ
    pub is_shut : IsFirstEvent (case_lists c.case) nodes images (Shut rings)
    pub is_kept : set ≡ kept_set (2 * state_bits c.case) c.unit c.number (ring (case_lists c.case) rings)

  -- so is each of these sets, case by case
  abbrev pub AreKept : List UnitCase → List KeptSet → Type 0
  AreKept [] [] = Unit {0}
  AreKept (c ∷ cases) (set ∷ sets) = IsKept c set × AreKept cases sets
  AreKept _ _ = ⊥

  -- the text is valid, and the proof holds it with what is kept of each case of each unit, in order
  pub record IsProofOf (text : List ℕ) (proof : Proof) : Type 0 where
    pub tree : Text
    pub is_valid : IsValid text tree
    pub design : proof.design ≡ text
    pub are_kept : AreKept (cases_of tree) proof.sets
