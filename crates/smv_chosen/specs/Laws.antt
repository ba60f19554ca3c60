-- The laws: what the crate's public functions say.
use Rattle.std.specs.Prelude.{◌≡◌, slice_get}
use Rattle.smv_core.specs.declared.flat.Design.{Design}
use Rattle.smv_core.specs.declared.flat.Assumed.{Assumed}
use Rattle.law_obligations.specs.Outlines.{assumed}
use Rattle.law_obligations.specs.Units.{units_of}

-- the claim that is assumed in a design with all its units
abbrev pub ClaimsAreAssumed : Type 0
ClaimsAreAssumed = (d : Design) (used : Assumed) → assumed (record { design = d; units = units_of d }) used ≡ slice_get d.claims used.claim
