-- Families and their paths.
use Rattle.std.specs.Prelude.{◌≡◌, ℕ, [], slice_get, Some}
use Rattle.smv_core.specs.Types.{Family}
use Rattle.smv_core.specs.FlatOrder.{design_of}
use Rattle.smv_core.specs.Outcome.{family_at}
use Rattle.smv_core.specs.declared.tree.Text.{Text}
use Rattle.law_designs.specs.Numbers.{family_number}
use Rattle.law_designs.specs.Flattening.{scope_in}

-- each family is found by its path, in the text and in the flattened text
abbrev pub FamiliesAreFound : Text → Type 0
FamiliesAreFound text = (k : ℕ) (f : Family) → slice_get (design_of text).families k ≡ Some f → (family_at (design_of text).families f.path ≡ Some f) × (family_number (scope_in text []) f.path ≡ k)
