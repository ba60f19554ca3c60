-- The laws: what the crate's public functions say.
use Rattle.std.specs.Prelude.{◌≡◌, ◌≢◌, ℕ, Bool, true, false, List, Ok}
use Rattle.smv_core.specs.Notation.{Tokens}
use Rattle.smv_lex.specs.Lexing.{lexed}
use Rattle.smv_bits.specs.declared.Bits.{Bits}
use Rattle.smv_bits.specs.declared.Bits.TheVariants.{Near}
use Rattle.smv_problem.specs.declared.report.Budgets.{Budgets}
use Rattle.smv_command.specs.declared.exit.Status.{Status}
use Rattle.smv_command.specs.declared.exit.Status.TheVariants as status
use Rattle.law_formulas.specs.Formulas.{FormulaText, IsSoundOverTimes}
use Rattle.law_formula_texts.specs.Spelled.{SpellsFormulas}
use Rattle.law_translated_texts.specs.Translation.{Translation}
use Rattle.law_translated_texts.specs.Answers.{levels, IsTranslated, IsRefused}
use Rattle.law_ltl_answers.specs.Dues.{IsLtlDue}

-- over near bits what one call leaves unknown another may decide: so this status is not the only one there
abbrev pub leaves_open : Bits → Status → Bool
leaves_open Near status.SomeUnknown = true
leaves_open _ _ = false

-- a text has not both a translation and a reason why it is not translated
abbrev pub NotBothTranslated : Type 0
NotBothTranslated = (text : List ℕ) (t : Translation) (number at : ℕ) → IsTranslated text t → ¬ IsRefused text number at

-- and one such reason at most
abbrev pub OneRefusal : Type 0
OneRefusal = (text : List ℕ) (number other at place : ℕ) → IsRefused text number at → IsRefused text other place → (number ≡ other) × (at ≡ place)

-- one status is due to a text with formulas, beside one that leaves it open
abbrev pub OneLtlStatus : Type 0
OneLtlStatus = (proved : Status) (bits : Bits) (budgets : Budgets) (text : List ℕ) (due other : Status) (answer another : List ℕ) → IsLtlDue proved bits budgets text due answer → IsLtlDue proved bits budgets text other another →
    leaves_open bits due ≡ false → leaves_open bits other ≡ false → due ≡ other

-- and one answer, where besides no unit is false
abbrev pub OneLtlAnswer : Type 0
OneLtlAnswer = (proved : Status) (bits : Bits) (budgets : Budgets) (text : List ℕ) (due other : Status) (answer another : List ℕ) → IsLtlDue proved bits budgets text due answer → IsLtlDue proved bits budgets text other another →
    leaves_open bits due ≡ false → leaves_open bits other ≡ false → due ≢ status.SomeFalse → answer ≡ another

-- the text is read with its formulas, and each map and each formula holds at each time of each run, for all sizes
abbrev pub AreSoundFormulas : List ℕ → Type 0
AreSoundFormulas text = (ts : Tokens) × (ft : FormulaText) × (lexed text ≡ Ok ts) × SpellsFormulas levels ts ft × IsSoundOverTimes ft

-- where the status of a proved text is due, and it is none of the others, the text is sound over times
abbrev pub ProvedFormulasAreSound : Type 0
ProvedFormulasAreSound = (proved : Status) (bits : Bits) (budgets : Budgets) (text answer : List ℕ) → proved ≢ status.SomeFalse → proved ≢ status.SomeUnknown → proved ≢ status.Refused →
    IsLtlDue proved bits budgets text proved answer → AreSoundFormulas text
