-- Where one of some lists that are read side by side ends, nothing is left to write.
use Rattle.std.proofs.Common.{◌≡◌, ◌<◌, ℕ, List, [], ◌∷◌, arith, length, refl}
use Rattle.smv_core.specs.declared.flat.Design.{Design}
use Rattle.smv_core.specs.declared.flat.Pick.{Pick}
use Rattle.smv_core.specs.declared.flat.Assumed.{Assumed}
use Rattle.smv_core.specs.declared.flat.Timing.{Timing}
use Rattle.smv_look_lines.specs.Lists.{claim_lines, pick_lines}

pub no_picks : (d : Design) (picks : List Pick) (times : List Timing) → length times < 1 → pick_lines d picks times ≡ []
no_picks d [] [] few = refl
no_picks d (p ∷ picks) [] few = refl
no_picks d picks (time ∷ times) few = absurd (omega arith)

pub no_claims : (d : Design) (claims : List Assumed) (times : List Timing) → length times < 1 → claim_lines d claims times ≡ []
no_claims d [] [] few = refl
no_claims d (used ∷ claims) [] few = refl
no_claims d claims (time ∷ times) few = absurd (omega arith)
