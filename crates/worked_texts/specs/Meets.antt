-- When bytes spell a text that meets the conditions of the laws of texts without faults.
use Rattle.std.specs.Prelude.{ℕ, List, Option, Some, None}
use Rattle.smv_core.specs.declared.tree.Text.{Text}
use Rattle.worked_texts.specs.Right.{tree_of}
use Rattle.law_designs.specs.WellKinded.{IsWellKinded}

-- the bytes spell a text without a fault of names, size and kinds
abbrev pub MeetsConditions : List ℕ → Type 0
MeetsConditions text = of_tree (tree_of text)
  where
    of_tree : Option Text → Type 0
    of_tree None = ⊥
    of_tree (Some tree) = IsWellKinded tree
