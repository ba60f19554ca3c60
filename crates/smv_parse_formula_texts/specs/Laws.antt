-- The laws: bytes spell one text with formulas or have one fault.
use Rattle.std.specs.Prelude.{◌≡◌, ◌≤◌, ◌⊎◌, ℕ, List, length}
use Rattle.smv_core.specs.Notation.{Tokens}
use Rattle.law_formulas.specs.Formulas.{FormulaText}
use Rattle.smv_parse_formula_texts.specs.Spelling.{SpellsText, HasFault}

abbrev pub IsOneText : Type 0
IsOneText = (text : List ℕ) (ts more : Tokens) (tree other : FormulaText) → SpellsText text ts tree → SpellsText text more other → (ts ≡ more) × (tree ≡ other)

abbrev pub IsOneFault : Type 0
IsOneFault = (text : List ℕ) (number other at place : ℕ) → HasFault text number at → HasFault text other place → (number ≡ other) × (at ≡ place)

abbrev pub IsNotBoth : Type 0
IsNotBoth = (text : List ℕ) (ts : Tokens) (tree : FormulaText) (number at : ℕ) → SpellsText text ts tree → ¬ HasFault text number at

abbrev pub IsEither : Type 0
IsEither = (text : List ℕ) → ((ts : Tokens) × (tree : FormulaText) × SpellsText text ts tree) ⊎ ((number : ℕ) × (at : ℕ) × HasFault text number at)

-- a fault is one of 1 to 6, and stands in the text or at its end
abbrev pub IsWithin : Type 0
IsWithin = (text : List ℕ) (number at : ℕ) → HasFault text number at → (1 ≤ number) × (number ≤ 6) × (at ≤ length text)
