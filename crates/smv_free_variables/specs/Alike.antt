-- Bindings that agree with one of them.
use Rattle.std.specs.Prelude.{ℕ, List, [], ◌∷◌, Bool}
use Rattle.smv_spots.specs.declared.spots.Spot.{Spot}
use Rattle.law_obligations.specs.FreeReads.{Agree}

-- each of these agrees with the first on the variables whose numbers pass the test
abbrev pub AllAgree : (ℕ → Bool) → List Spot → List (List Spot) → Type 0
AllAgree test first [] = Unit {0}
AllAgree test first (b ∷ bs) = Agree test first b × AllAgree test first bs
