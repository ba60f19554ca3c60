-- When a document is a checked one.
use Rattle.std.specs.Prelude.{◌≡◌, ◌*◌, Bool, true, false, ◌&&◌, nat_eq, List, [], ◌∷◌}
use Rattle.std.specs.Str.{bytes_eq}
use Rattle.smv_core.specs.declared.tree.Text.{Text}
use Rattle.smv_rings.specs.Paths.{IsInductive}
use Rattle.law_obligations.specs.Readings.{PosedCase, state_bits}
use Rattle.law_reports.specs.CaseLists.{case_lists}
use Rattle.law_valid_texts.specs.Reports.{IsValid}
use Rattle.smv_proof.specs.declared.proof.KeptSet.{KeptSet}
use Rattle.smv_proof.specs.declared.proof.Proof.{Proof}
use Rattle.smv_proof.specs.Meanings.{meaning, is_below}
use Rattle.law_checked_proofs.specs.Cases.{UnitCase, cases_of}

-- a set of this unit and case
abbrev pub is_for : UnitCase → KeptSet → Bool
is_for c set = bytes_eq set.unit c.unit && nat_eq set.number c.number

-- a set for each case, in order
abbrev pub are_for : List UnitCase → List KeptSet → Bool
are_for [] [] = true
are_for (c ∷ cases) (set ∷ sets) = is_for c set && are_for cases sets
are_for _ _ = false

-- each over the state bits of its case
abbrev pub are_within : List UnitCase → List KeptSet → Bool
are_within (c ∷ cases) (set ∷ sets) = is_below (2 * state_bits c.case) set && are_within cases sets
are_within _ _ = true

-- the set meets the four conditions of induction of the case
abbrev pub Meets : PosedCase → KeptSet → Type 0
Meets case set = IsInductive (case_lists case) (meaning set)

-- each set does so of its case
abbrev pub AllMeet : List UnitCase → List KeptSet → Type 0
AllMeet (c ∷ cases) (set ∷ sets) = Meets c.case set × AllMeet cases sets
AllMeet _ _ = Unit {0}

-- a checked proof: its design is valid, and it has a set for each case of each unit, in order, over the state bits of the case, which meets the four conditions of induction
pub record IsChecked (proof : Proof) : Type 0 where
  pub tree : Text
  pub is_valid : IsValid proof.design tree
  pub are_for : are_for (cases_of tree) proof.sets ≡ true
  pub are_within : are_within (cases_of tree) proof.sets ≡ true
  pub all_meet : AllMeet (cases_of tree) proof.sets
