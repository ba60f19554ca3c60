-- The last stage of a formula, as the code finds it.
use Rattle.std.specs.Prelude.{◌≡◌, ℕ, List, [], ◌∷◌, codes, Option, Some, None}
use Rattle.std.proofs.Common.{Bor}
use Rattle.smv_core.specs.Values.{Name}
use Rattle.law_translated_texts.specs.Parts.{Phrase}
use Rattle.law_translated_texts.specs.Phrases.{Pieces, claim_of, outset}
use Rattle.smv_phrases.specs.Seen.{behind, stage_of}
use Rattle.smv_phrases.specs.declared.phrases.Front.{Front}
use Rattle.smv_phrases.specs.declared.stages.Stage.{Stage}

-- what is claimed at the last stage of a formula, which ends so
abbrev pub from_last : List Name → Phrase (List ℕ) → Option (Stage × Bor (List Name)) → Pieces
from_last vars end (Some last) = claim_of vars last.1.now (stage_of last.0) end
from_last vars end None = codes "1" ∷ []

-- with whatever parameters, and however the formula ends, this is its claim
abbrev pub IsReachedBy : List Name → List Front → Option (Stage × Bor (List Name)) → Type 0
IsReachedBy monitors fronts last = (vars : List Name) (end : Phrase (List ℕ)) → claim_of vars monitors outset (behind fronts end) ≡ from_last vars end last
