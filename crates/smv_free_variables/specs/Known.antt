-- What is known of expressions under bindings, and which of it answers for another expression.
use Rattle.std.specs.Prelude.{◌≡◌, List}
use Rattle.smv_core.specs.declared.flat.FlatExpr.{FlatExpr}
use Rattle.law_obligations.specs.Sets.{Has}
use Rattle.law_obligations.specs.FreeReads.{Agree}
use Rattle.smv_spots.specs.declared.spots.Spot.{Spot}
use Rattle.smv_free_variables.specs.Reading.{occurs}
use Rattle.smv_free_variables.specs.Placeless.{placeless}
use Rattle.smv_free_variables.specs.declared.known.Entry.{Entry}

-- what is known of an expression says all of another that differs from it by its places in the text alone, under bindings that agree on what that one reads
pub record Answers {A : Type 0} (e : FlatExpr) (b : List Spot) (x : Entry A) : Type 0 where
  pub same : placeless x.of.now ≡ placeless e
  pub agree : Agree (λ k. occurs k e) x.bindings b

-- an answer that is known
abbrev pub IsKnownOf : {A : Type 0} → List (Entry A) → FlatExpr → List Spot → A → Type 0
IsKnownOf {A} entries e b answer = (x : Entry A) × (Has entries x × (Answers e b x × (x.answer ≡ answer)))
