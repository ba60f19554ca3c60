-- The laws: what the crate's public functions say.
use Rattle.std.specs.Prelude.{◌≡◌}
use Rattle.smv_core.specs.Outcome.{State, Scene, Bindings, outcome}
use Rattle.smv_core.specs.Sound.{IsSound}
use Rattle.smv_core.specs.declared.tree.Expr.{Expr}
use Rattle.smv_core.specs.declared.tree.Text.{Text}
use Rattle.law_places.specs.Placeless.{placeless, placeless_text}

-- an expression has the outcome that it has without its places
abbrev pub OutcomesArePlaceless : Type 0
OutcomesArePlaceless = (scene : Scene) (s : State) (e : Expr) (b : Bindings) → outcome scene s (placeless e) b ≡ outcome scene s e b

-- texts that are the same without their places, splits and uses are sound alike
abbrev pub SoundnessIsPlaceless : Type 0
SoundnessIsPlaceless = (text other : Text) → placeless_text text ≡ placeless_text other → IsSound text → IsSound other
