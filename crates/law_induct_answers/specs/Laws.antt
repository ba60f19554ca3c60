-- The laws: what the crate's public functions say.
use Rattle.std.specs.Prelude.{◌≡◌, ◌≢◌, ℕ, List}
use Rattle.smv_core.specs.Values.{Name}
use Rattle.smv_core.specs.Sound.{IsSound}
use Rattle.smv_core.specs.declared.tree.Text.{Text}
use Rattle.smv_problem.specs.declared.report.Budgets.{Budgets}
use Rattle.smv_command.specs.declared.exit.Status.{Status}
use Rattle.smv_command.specs.declared.exit.Status.TheVariants as status
use Rattle.law_valid_texts.specs.Reports.{IsValid, IsSoundDesign}
use Rattle.law_strengthened_texts.specs.Stronger.{Stronger, IsStrengthened}
use Rattle.law_induct_answers.specs.Dues.{IsInductDue}

-- one status is due to an induction on a text
abbrev pub OneInductStatus : Type 0
OneInductStatus = (proved : Status) (name var : Name) (budgets : Budgets) (text : List ℕ) (due other : Status) (answer another : List ℕ) → IsInductDue proved name var budgets text due answer →
    IsInductDue proved name var budgets text other another → due ≡ other

-- and one answer, where no unit is false
abbrev pub OneInductAnswer : Type 0
OneInductAnswer = (proved : Status) (name var : Name) (budgets : Budgets) (text : List ℕ) (due other : Status) (answer another : List ℕ) → IsInductDue proved name var budgets text due answer →
    IsInductDue proved name var budgets text other another → due ≢ status.SomeFalse → answer ≡ another

-- a valid text is sound where its strengthened text is valid and sound
abbrev pub StrengthenedIsSound : Type 0
StrengthenedIsSound = (text : List ℕ) (name var : Name) (s : Stronger) (tree other : Text) → IsValid text tree → IsStrengthened text name var s → IsValid s.text other → IsSound other → IsSound tree

-- where the status of a proved text is due, and it is none of the others, the text is sound
abbrev pub InductedIsSound : Type 0
InductedIsSound = (proved : Status) (name var : Name) (budgets : Budgets) (text answer : List ℕ) → proved ≢ status.SomeFalse → proved ≢ status.SomeUnknown → proved ≢ status.Refused →
    IsInductDue proved name var budgets text proved answer → IsSoundDesign text
