-- What is known of expressions under bindings, so that it need not be worked out again.
use Rattle.std.specs.Prelude.{◌≡◌, ℕ, List, [], ◌∷◌, ◌++◌, Bool}
use Rattle.std.proofs.Common.{Bor}
use Rattle.smv_core.specs.declared.flat.FlatExpr.{FlatExpr}
use Rattle.law_obligations.specs.Sets.{Has}
use Rattle.smv_problem.specs.declared.problem.Problem.{Problem}
use Rattle.smv_spots.specs.declared.spots.Spot.{Spot}
use Rattle.smv_conditions.specs.declared.offers.May.{May}
use Rattle.smv_conditions.specs.declared.offers.May.TheVariants.{Truths, Values}
use Rattle.smv_conditions.specs.declared.chances.Chances.{Chances}
use Rattle.smv_conditions.specs.Chances.{AreMade}
use Rattle.smv_cells.specs.declared.cells.Cell.{Cell}
use Rattle.smv_cells.specs.Seen.{View, IsSeen}
use Rattle.smv_free_variables.specs.declared.known.Entry.{Entry}
use Rattle.smv_outcomes.specs.Outcomes.{IsMayOf}

-- what is known, where conditions live in values of this type
abbrev pub Entries : Type 0 → Type 0
Entries C = List (Entry (Chances C))

-- each answer is made, and is what its expression may be under its bindings, wherever assignments are read by these cells
unfoldable pub AreKnown : {S C : Type 0} → (S → C → Type 0) → (S → C → (ℕ → Bool) → Bool) → S → Problem → List (Cell C) → Entries C → Type 0
AreKnown {S} {C} IsMade holds s problem cells entries =
    (x : Entry (Chances C)) → Has entries x → AreMade (IsMade s) x.answer × ((v : View) → IsSeen holds s problem cells v → IsMayOf holds s v x.of.now x.bindings (Truths x.answer))

-- truth values are one entry more, and other outcomes none
abbrev pub Remembers : {C : Type 0} → Entries C → Entries C → Bor FlatExpr → List Spot → May C → Type 0
Remembers old new e b (Truths x) = new ≡ old ++ record { of = e; bindings = b; answer = x } ∷ []
Remembers old new e b (Values offers) = new ≡ old
