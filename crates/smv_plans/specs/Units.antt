-- The units of a design, in the order in which they are found.
use Rattle.std.specs.Prelude.{ℕ, ◌+◌, List, [], ◌∷◌, ◌++◌, if◌then◌else◌}
use Rattle.smv_core.specs.declared.flat.Def.{Def}
use Rattle.smv_core.specs.declared.flat.Claim.{Claim}
use Rattle.smv_core.specs.declared.flat.Design.{Design}
use Rattle.smv_core.specs.declared.flat.Unit.{Unit}
use Rattle.smv_core.specs.declared.flat.Unit.TheVariants as unit
use Rattle.law_obligations.specs.Units.{is_refinement}

-- the maps among some definitions, which are numbered from this number on
abbrev pub maps_from : Design → ℕ → List Def → List (ℕ × Unit)
maps_from d first [] = []
maps_from d first (def ∷ defs) = (if is_refinement d def.family def.layer then (def.place, unit.Map first) ∷ [] else []) ++ maps_from d (first + 1) defs

-- some claims, numbered from this number on
abbrev pub claims_from : ℕ → List Claim → List (ℕ × Unit)
claims_from first [] = []
claims_from first (claim ∷ claims) = (claim.place, unit.Claim first) ∷ claims_from (first + 1) claims
