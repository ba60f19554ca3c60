-- Runs of a text.
use Rattle.std.specs.Prelude.{◌≡◌, ◌<◌, ℕ, List, length}
use Rattle.smv_core.specs.Values.{Sizes}
use Rattle.smv_core.specs.FlatOrder.{design_of}
use Rattle.smv_core.specs.Outcome.{State}
use Rattle.smv_core.specs.Sound.{AreSizes, IsRun}
use Rattle.smv_core.specs.declared.tree.Text.{Text}

-- at all sizes there is a run of each length from 1 on
abbrev pub HasTextRuns : Text → Type 0
HasTextRuns text = (sizes : Sizes) → AreSizes text sizes → (times : ℕ) → 0 < times → (run : List State) × (length run ≡ times) × IsRun (design_of text) sizes run
