-- The laws of texts: each spells one tree or has one fault.
use Rattle.std.specs.Prelude.{◌≡◌, ◌≤◌, ◌⊎◌, ℕ, List, length}
use Rattle.smv_core.specs.declared.tree.Text.{Text}
use Rattle.smv_parse.specs.Spelling.{SpellsText, HasFault}

abbrev pub IsOneTree : Type 0
IsOneTree = (text : List ℕ) (tree other : Text) → SpellsText text tree → SpellsText text other → tree ≡ other

abbrev pub IsOneFault : Type 0
IsOneFault = (text : List ℕ) (number other at place : ℕ) → HasFault text number at → HasFault text other place → (number ≡ other) × (at ≡ place)

abbrev pub IsNotBoth : Type 0
IsNotBoth = (text : List ℕ) (tree : Text) (number at : ℕ) → SpellsText text tree → ¬ HasFault text number at

abbrev pub IsEither : Type 0
IsEither = (text : List ℕ) → ((tree : Text) × SpellsText text tree) ⊎ ((number : ℕ) × (at : ℕ) × HasFault text number at)

-- a fault is one of 1 to 6, and stands in the text or at its end
abbrev pub IsWithin : Type 0
IsWithin = (text : List ℕ) (number at : ℕ) → HasFault text number at → (1 ≤ number) × (number ≤ 6) × (at ≤ length text)
