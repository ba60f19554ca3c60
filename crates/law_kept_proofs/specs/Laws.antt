-- The laws: what the crate's public functions say.
use Rattle.std.specs.Prelude.{◌≡◌, ◌≤◌, ◌<◌, ℕ, true, List, length}
use Rattle.std.specs.List.{list_all}
use Rattle.smv_core.specs.declared.tree.Text.{Text}
use Rattle.law_obligations.specs.Sets.{Has}
use Rattle.law_obligations.specs.Readings.{state_bits}
use Rattle.law_valid_texts.specs.Reports.{IsValid}
use Rattle.smv_proof.specs.declared.proof.KeptSet.{KeptSet}
use Rattle.smv_proof.specs.declared.proof.Proof.{Proof}
use Rattle.smv_proof.specs.Documents.{most, is_name, is_set, is_proof, document}
use Rattle.law_checked_proofs.specs.Cases.{UnitCase, cases_of}
use Rattle.law_checked_proofs.specs.Kept.{IsProofOf}
use Rattle.law_checked_proofs.specs.Resumed.{IsResumedProof}
use Rattle.law_judgements.specs.Judgements.{IsJudged}
use Rattle.law_judgements.specs.Judgements.Judgement.{yes}

-- the name of each unit of a valid text is a name of a document
abbrev pub UnitNamesAreNames : Type 0
UnitNamesAreNames = (text : List ℕ) (tree : Text) → IsValid text tree → (c : UnitCase) → Has (cases_of tree) c → is_name c.unit ≡ true

-- a unit has at most 4,096 cases, and each at most 1,024 state bits
abbrev pub CasesAreSmall : Type 0
CasesAreSmall = (text : List ℕ) (tree : Text) → IsValid text tree → (c : UnitCase) → Has (cases_of tree) c → (c.number < 4096) × (state_bits c.case ≤ 1024)

-- each set has few enough lines to be numbered
abbrev pub HaveFewLines : List KeptSet → Type 0
HaveFewLines sets = (set : KeptSet) → Has sets set → length set.nodes < most

-- so the proof of a text keeps the rules of a document
abbrev pub KeptProofsAreProofs : Type 0
KeptProofsAreProofs = (text : List ℕ) (nodes images : ℕ) (proof : Proof) → IsProofOf nodes images text proof → HaveFewLines proof.sets → is_proof proof ≡ true

-- and so does one that is resumed from sets of a document
abbrev pub ResumedProofsAreProofs : Type 0
ResumedProofsAreProofs = (old : List KeptSet) (text : List ℕ) (nodes images : ℕ) (proof : Proof) → list_all is_set old ≡ true → IsResumedProof old nodes images text proof → HaveFewLines proof.sets → is_proof proof ≡ true

-- what is written of the proof of a text is judged with yes
abbrev pub KeptProofsAreJudged : Type 0
KeptProofsAreJudged = (text : List ℕ) (nodes images : ℕ) (proof : Proof) → IsProofOf nodes images text proof → HaveFewLines proof.sets → IsJudged (document proof) (yes (length proof.sets))

-- and what is written of a resumed one, from sets of a document
abbrev pub ResumedProofsAreJudged : Type 0
ResumedProofsAreJudged = (old : List KeptSet) (text : List ℕ) (nodes images : ℕ) (proof : Proof) → list_all is_set old ≡ true → IsResumedProof old nodes images text proof → HaveFewLines proof.sets →
    IsJudged (document proof) (yes (length proof.sets))
