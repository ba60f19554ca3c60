-- The laws: what the crate's public functions say.
use Rattle.std.specs.Prelude.{◌≡◌, ◌↔◌, ◌<◌, ◌≤◌, ◌+◌, ◌^◌, ℕ, suc, List, length, false}
use Rattle.std.specs.Str.{bytes_eq}
use Rattle.std.specs.List.{AllByRecursion, list_any}
use Rattle.smv_core.specs.Values.{Name}
use Rattle.smv_core.specs.FlatOrder.{design_of, modules}
use Rattle.smv_core.specs.Sound.{IsSound}
use Rattle.law_formulas.specs.Formulas.{Formula, FormulaText, IsSoundOverTimes}
use Rattle.law_formulas.specs.Monitors.{free_names, watched, monitors_of, layer_of, translated}
use Rattle.law_formula_trees.specs.Behind.{AreApart}
use Rattle.law_formula_trees.specs.Placed.{placed, claims_of, AreFlat, AreNamed, AreFreshMonitors, AreAlone, MonitorsFit, IsOldClaim}
use Rattle.law_fresh_monitors.specs.Names.{IsOldText}
use Rattle.law_fresh_monitors.specs.Spots.{SpotsAreApart}

-- free names are as many as are asked for, no two the same, and none is used
abbrev pub FreeNamesAreFree : Type 0
FreeNamesAreFree = (used : List Name) (count : ℕ) → count + length used < 2 ^ 64 →
    (length (free_names used count) ≡ count) × AreApart (free_names used count) × AllByRecursion (λ name. list_any (bytes_eq name) used ≡ false) (free_names used count)

-- where there are enough names, each formula has a name of these for each of its monitors
abbrev pub PlansAreNamed : Type 0
PlansAreNamed = (formulas : List (ℕ × Formula)) (names : List Name) → monitors_of formulas ≤ length names → AreNamed (watched formulas names) × AreFreshMonitors names (watched formulas names)

-- the monitors fit a text in which none of their names stands
abbrev pub OtherNamesFit : Type 0
OtherNamesFit = (names : List Name) (ft : FormulaText) → length names ≡ suc (monitors_of ft.formulas) → IsOldText names ft → AreFlat (modules ft.text.tops) → AreAlone (placed (watched ft.formulas names) ft.text) →
    MonitorsFit names (watched ft.formulas names) (layer_of names ft) ft.text × AllByRecursion (IsOldClaim names ft.formulas) (claims_of (design_of ft.text))

-- no two definitions of monitors are of one path, where no two of the names are the same, and claims whose formulas are no expressions stand apart
abbrev pub MonitorsAreAlone : Type 0
MonitorsAreAlone = (names : List Name) (ft : FormulaText) → AreApart names → SpotsAreApart ft → AreAlone (placed (watched ft.formulas names) ft.text)

-- The theorem for the translation whose names are the first free ones: where these stand nowhere in the text, it is sound over times exactly where its translation is sound.
abbrev pub TranslatedIsExact : Type 0
TranslatedIsExact = (used : List Name) (ft : FormulaText) → monitors_of ft.formulas + 1 + length used < 2 ^ 64 → IsOldText (free_names used (monitors_of ft.formulas + 1)) ft → AreFlat (modules ft.text.tops) → SpotsAreApart ft →
    IsSoundOverTimes ft ↔ IsSound (translated used ft)
