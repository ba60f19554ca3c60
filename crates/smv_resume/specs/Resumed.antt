-- What is kept of a text.
use Rattle.std.specs.Prelude.{◌≡◌, ℕ, true, List}
use Rattle.law_reports.specs.Reports.{AllTrueUnits}
use Rattle.smv_proof.specs.declared.proof.KeptSet.{KeptSet}
use Rattle.smv_proof.specs.Documents.{is_proof}
use Rattle.law_checked_proofs.specs.Resumed.{IsResumedProof, IsResumedReport}
use Rattle.law_kept_proofs.specs.Laws.{HaveFewLines}
use Rattle.smv_resume.specs.declared.Kept.{Kept}
use Rattle.smv_resume.specs.declared.Kept.TheVariants.{All, Open}

-- for the sets of an old proof, and for budgets of nodes and of images: the proof that is resumed, or, where not each unit is true, the report of what is resumed
abbrev pub IsResumed : List KeptSet → ℕ → ℕ → List ℕ → Kept → Type 0
IsResumed old nodes images text (All proof) = IsResumedProof old nodes images text proof
IsResumed old nodes images text (Open report) = IsResumedReport old nodes images text report × (AllTrueUnits report.units → ⊥)

-- the proof keeps the rules of a document, and the lines of its sets can be numbered
abbrev pub CanBeWritten : Kept → Type 0
CanBeWritten (All proof) = (is_proof proof ≡ true) × HaveFewLines proof.sets
CanBeWritten (Open report) = Unit {0}
