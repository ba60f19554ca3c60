-- What the answers of a check say.
use Rattle.std.specs.Prelude.{◌≡◌, ℕ, true, false, List, length, Option, Some, None, Result, Ok, Err}
use Rattle.smv_proof.specs.declared.proof.KeptSet.{KeptSet}
use Rattle.law_checked_proofs.specs.Cases.{UnitCase}
use Rattle.law_checked_proofs.specs.Checked.{AllMeet}
use Rattle.law_judgements.specs.Judgements.{Judgement, FailsAt}
use Rattle.law_judgements.specs.Judgements.Judgement.{yes, form, design, set}
use Rattle.smv_check.specs.declared.errors.CheckError.{CheckError}
use Rattle.smv_check.specs.declared.errors.CheckError.TheVariants.{Form, Design, Set, OutOfMemory}
use Rattle.smv_check.specs.Progress.{fit}

-- the judgement that is told; none where memory ran out
abbrev pub judgement_of : Result ℕ CheckError → Option Judgement
judgement_of (Ok count) = Some (yes count)
judgement_of (Err Form) = Some form
judgement_of (Err (Design fault)) = Some (design fault.number fault.at)
judgement_of (Err (Set number)) = Some (set number)
judgement_of (Err OutOfMemory) = None

-- what is told of sets beside cases
abbrev pub IsAnswer : List UnitCase → List KeptSet → Result ℕ CheckError → Type 0
IsAnswer cases sets (Ok count) = (fit cases sets ≡ true) × AllMeet cases sets × (count ≡ length sets)
IsAnswer cases sets (Err Form) = fit cases sets ≡ false
IsAnswer cases sets (Err (Design fault)) = ⊥
IsAnswer cases sets (Err (Set number)) = (fit cases sets ≡ true) × FailsAt 1 cases sets number
IsAnswer cases sets (Err OutOfMemory) = Unit {0}
