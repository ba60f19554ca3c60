-- Types whose numbers in the flattened text stand for them.
use Rattle.std.proofs.Common.{◌≡◌, [], All, Option, Some, None}
use Rattle.smv_core.specs.Values.{Simple, Sizes}
use Rattle.smv_core.specs.Types.{Family, simple}
use Rattle.smv_core.specs.FlatOrder.{design_of}
use Rattle.smv_core.specs.FlatMeaning.{Numbered, simple_in}
use Rattle.smv_core.specs.declared.tree.TypeExpr.{TypeExpr}
use Rattle.smv_core.specs.declared.tree.Text.{Text}
use Rattle.law_designs.specs.Numbers.{Scope, flat_simple}
use Rattle.law_designs.specs.Flattening.{scope_in}
use Rattle.law_designs.specs.Agreement.{IsIndexType, numbers_in}

module _ (scope : Scope) (n : Numbered) where
  -- the number of a type stands for this type again: its set type or enumeration is listed
  abbrev pub IsNumbered : Simple → Type 0
  IsNumbered t = simple_in n (flat_simple scope t) ≡ t

  -- the types of a family have numbers
  abbrev pub HasNumbers : Family → Type 0
  HasNumbers f = IsNumbered f.value × All IsNumbered f.over

  abbrev pub IsNumberedOrNone : Option Simple → Type 0
  IsNumberedOrNone (Some t) = IsNumbered t
  IsNumberedOrNone None = Unit {0}

  -- the type over which a binder runs
  abbrev pub RunsOver : TypeExpr → Type 0
  RunsOver over = IsNumberedOrNone (simple scope.types over)

-- the types of each family of a text have numbers, and so has each type over which a binder may run
abbrev pub AreNumbered : Text → Sizes → Type 0
AreNumbered text sizes =
    All (HasNumbers (scope_in text []) (numbers_in text sizes)) (design_of text).families × ((over : TypeExpr) → IsIndexType over → RunsOver (scope_in text []) (numbers_in text sizes) over)
