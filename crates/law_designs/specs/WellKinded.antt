-- Texts of which the laws of flattening speak.
use Rattle.std.specs.Prelude.{◌≡◌, ℕ, None}
use Rattle.smv_core.specs.Notation.{Tokens}
use Rattle.smv_core.specs.Spelling.{Spells}
use Rattle.smv_core.specs.declared.tree.Text.{Text}
use Rattle.smv_mentions.specs.FirstFault.{first_fault}
use Rattle.law_designs.specs.KindFaults.{first_fault_of_kinds}

-- some tokens spell the text, and it has no fault of names, size, kinds, ranges and sets
abbrev pub IsWellKinded : Text → Type 0
IsWellKinded text = (n : ℕ) × (tokens : Tokens) × Spells n tokens text × (first_fault text ≡ None) × (first_fault_of_kinds text ≡ None)
