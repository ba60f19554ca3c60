-- Worked bytes.
use Rattle.std.specs.Prelude.{◌≡◌, codes}
use Rattle.law_strengthened_claims.specs.Renaming.{IsName}
use Rattle.law_strengthened_claims.specs.Replacement.{replacement}

-- what stands in place of `x[i]`
abbrev pub ReplacementWritten : Type 0
ReplacementWritten = replacement (codes "i") (codes "below0") (codes "I") (codes "x[below0]") (codes "x[i]") ≡ codes "& [ below0 < i -> ( x[below0] ) : below0 in I ] -> ( x[i] )"

-- `below0` is a name, and `in` is none
abbrev pub NamesAlone : Type 0
NamesAlone = IsName (codes "below0") × (IsName (codes "in") → ⊥)
