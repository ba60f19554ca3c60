-- Each refusal of a text has a number of 1 to 31, or for the sizes of a confirmation 34 or 35, or for an induction 36, or for formulas over several times 37, and a place of at most the text's length.
use Rattle.std.specs.Prelude.{◌≡◌, ◌≤◌, ◌⊎◌, ℕ, false, List, length}
use Rattle.smv_core.specs.Values.{Name}
use Rattle.smv_core.specs.declared.tree.Text.{Text}
use Rattle.smv_parse.specs.Spelling.{SpellsText}
use Rattle.smv_bits.specs.declared.Bits.{Bits}
use Rattle.smv_problem.specs.declared.report.Budgets.{Budgets}
use Rattle.smv_report.specs.Lines.{fault_text}
use Rattle.smv_command.specs.declared.commands.Command.{Command}
use Rattle.smv_command.specs.declared.commands.Command.TheVariants.{Confirm, Ltl}
use Rattle.smv_command.specs.declared.exit.Status.TheVariants as status
use Rattle.law_judgements.specs.Judgements.{IsFaultOf}
use Rattle.law_strengthened_texts.specs.Stronger.{Stronger, back, IsStrengthened}
use Rattle.law_answers.specs.Dues.{IsFault, IsDue, IsDocumentDue, IsInductDue, IsLtlDue, is_of_own}
use Rattle.law_fault_places.specs.TreePlaces.{TextIsWithin}
use Rattle.law_fault_places.specs.PassFaults.{IsFaultWithin}

-- what a text spells has its places within the text
abbrev pub TreesOfTextsAreWithin : Type 0
TreesOfTextsAreWithin = (text : List ℕ) (tree : Text) → SpellsText text tree → TextIsWithin (length text) tree

-- a number of 34 or 35, which the sizes of a confirmation have alone, and a place of at most n
pub record IsSizeFaultWithin (n number at : ℕ) : Type 0 where
  pub lowest : 34 ≤ number
  pub highest : number ≤ 35
  pub place : at ≤ n

-- the number 37, which formulas over several times have alone, and a place of at most n
pub record IsFormulaFaultWithin (n number at : ℕ) : Type 0 where
  pub own : number ≡ 37
  pub place : at ≤ n

-- the number and the place of a fault under a command
abbrev pub IsFaultUnder : Command → ℕ → ℕ → ℕ → Type 0
IsFaultUnder (Confirm name sizes bits budgets) n number at = IsFaultWithin n number at ⊎ IsSizeFaultWithin n number at
IsFaultUnder (Ltl bits budgets) n number at = IsFaultWithin n number at ⊎ IsFormulaFaultWithin n number at
IsFaultUnder _ n number at = IsFaultWithin n number at

-- the first fault of a text under any command stands within the text
abbrev pub FaultsAreWithin : Type 0
FaultsAreWithin = (command : Command) (text : List ℕ) (number at : ℕ) → IsFault command text number at → IsFaultUnder command (length text) number at

-- and a refusal that is due to a command on texts tells such a fault, and nothing else
abbrev pub RefusalsTellFaults : Type 0
RefusalsTellFaults = (command : Command) (text answer : List ℕ) → is_of_own command ≡ false → IsDue command text status.Refused answer →
    (number : ℕ) × (at : ℕ) × IsFault command text number at × IsFaultUnder command (length text) number at × (answer ≡ fault_text text number at)

-- a refusal that is due of documents tells a fault of the design that was read, or that there are too many bytes
abbrev pub DocumentRefusalsTellFaults : Type 0
DocumentRefusalsTellFaults = (command : Command) (bytes answer : List ℕ) → IsDocumentDue command bytes status.Refused answer →
    ((text : List ℕ) × (number : ℕ) × (at : ℕ) × IsFaultOf text number at × IsFaultWithin (length text) number at × (answer ≡ fault_text text number at)) ⊎ (answer ≡ fault_text bytes 33 0)

-- an offset of a strengthened text is carried back into the text that was read
abbrev pub PlacesAreCarriedBack : Type 0
PlacesAreCarriedBack = (text : List ℕ) (name var : Name) (s : Stronger) (at : ℕ) → IsStrengthened text name var s → at ≤ length s.text → back s at ≤ length text

-- a refusal that is due to an induction tells a fault of the text or of the strengthened one, at a place of the text that was read, or that no induction of the text is this one
abbrev pub InductionRefusalsTellFaults : Type 0
InductionRefusalsTellFaults = (name var : Name) (budgets : Budgets) (text answer : List ℕ) → IsInductDue status.Inducted name var budgets text status.Refused answer →
    ((number : ℕ) × (at : ℕ) × IsFaultWithin (length text) number at × (answer ≡ fault_text text number at)) ⊎ (answer ≡ fault_text text 36 0)

-- and a refusal that is due to formulas over several times tells a fault of the text or of the translated one, at a place of the text that was read
abbrev pub FormulaRefusalsTellFaults : Type 0
FormulaRefusalsTellFaults = (bits : Bits) (budgets : Budgets) (text answer : List ℕ) → IsLtlDue status.AllFormulas bits budgets text status.Refused answer →
    (number : ℕ) × (at : ℕ) × IsFaultUnder (Ltl bits budgets) (length text) number at × (answer ≡ fault_text text number at)
