-- What the passes of kinds, of set types and of names give a design.
use Rattle.std.specs.Prelude.{◌≡◌, ◌≤◌, List, None, true, IfSome}
use Rattle.smv_core.specs.Values.{Name}
use Rattle.smv_core.specs.declared.tree.Text.{Text}
use Rattle.smv_core.specs.declared.flat.SetInfo.{SetInfo}
use Rattle.smv_core.specs.declared.flat.FlatText.{FlatText}
use Rattle.smv_mentions.specs.FirstFault.{first_fault}
use Rattle.law_designs.specs.Flattening.{flatten}
use Rattle.law_designs.specs.FlatKinds.{is_kinded}
use Rattle.law_designs.specs.SetFaults.{first_fault_of_sets}
use Rattle.law_designs.specs.Definitions.{design_of_flat_text}
use Rattle.law_obligations.specs.Sets.{Has}
use Rattle.smv_problem.specs.WellFormed.{AreDistinct}
use Rattle.law_problems.specs.Parts.{IsFitDesign}
use Rattle.law_problems.specs.Kinded.{HasKindedSplits}

-- where a flattened text keeps the rules of kinds and of set types, and the constants of its enumerations are distinct, its design is fit
abbrev pub DesignsAreFit : Type 0
DesignsAreFit = (flat_text : FlatText) → is_kinded flat_text ≡ true → first_fault_of_sets flat_text ≡ None → ((list : List Name) → Has flat_text.enums list → AreDistinct list) → IsFitDesign (design_of_flat_text flat_text)

-- and the equations of its splits have kinds and keep orders
abbrev pub SplitsAreKinded : Type 0
SplitsAreKinded = (flat_text : FlatText) → is_kinded flat_text ≡ true → first_fault_of_sets flat_text ≡ None → HasKindedSplits (design_of_flat_text flat_text)

-- and each scalarset that is declared with a size has at most 256 values
abbrev pub SizesAreFew : Type 0
SizesAreFew = (flat_text : FlatText) → is_kinded flat_text ≡ true → (info : SetInfo) → Has flat_text.sets info → IfSome info.size (λ n. n ≤ 256)

-- in a text without a fault of names the constants of each enumeration are distinct
abbrev pub ConstantsAreDistinct : Type 0
ConstantsAreDistinct = (text : Text) → first_fault text ≡ None → (list : List Name) → Has (flatten text).enums list → AreDistinct list
