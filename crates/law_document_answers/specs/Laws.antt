-- The laws: what the crate's public functions say.
use Rattle.std.specs.Prelude.{◌≡◌, ◌≢◌, ℕ, List}
use Rattle.smv_command.specs.declared.commands.Command.{Command}
use Rattle.smv_command.specs.declared.exit.Status.{Status}
use Rattle.smv_command.specs.declared.exit.Status.TheVariants as status
use Rattle.law_valid_texts.specs.Reports.{IsSoundDesign}
use Rattle.smv_proof.specs.declared.proof.Proof.{Proof as Document}
use Rattle.smv_proof.specs.Documents.{Spells}
use Rattle.law_document_answers.specs.Dues.{IsDocumentDue, IsOld}

-- one status is due to a command on documents and its bytes
abbrev pub OneDocumentStatus : Type 0
OneDocumentStatus = (command : Command) (text : List ℕ) (due other : Status) (answer another : List ℕ) → IsDocumentDue command text due answer → IsDocumentDue command text other another → due ≡ other

-- and one answer, where no unit is false
abbrev pub OneDocumentAnswer : Type 0
OneDocumentAnswer = (command : Command) (text : List ℕ) (due other : Status) (answer another : List ℕ) → IsDocumentDue command text due answer → IsDocumentDue command text other another →
    due ≢ status.SomeFalse → answer ≡ another

-- where it is due that a document is written, the text is sound
abbrev pub DocumentedIsSound : Type 0
DocumentedIsSound = (command : Command) (text answer : List ℕ) → IsDocumentDue command text status.Documented answer → IsSoundDesign text

-- the bytes spell a document whose design is sound
abbrev pub HoldsSound : List ℕ → Type 0
HoldsSound bytes = (proof : Document) × Spells bytes proof × IsSoundDesign proof.design

-- where it is due that bytes are a checked document, they hold a design that is sound
abbrev pub CheckedIsSound : Type 0
CheckedIsSound = (command : Command) (bytes answer : List ℕ) → IsDocumentDue command bytes status.Checked answer → HoldsSound bytes

-- the new design behind an old document is sound
abbrev pub RenewsSound : List ℕ → Type 0
RenewsSound bytes = (old : List ℕ) × (text : List ℕ) × IsOld bytes old text × IsSoundDesign text

-- where it is due that a document is resumed, the new text is sound
abbrev pub ResumedIsSound : Type 0
ResumedIsSound = (command : Command) (bytes answer : List ℕ) → IsDocumentDue command bytes status.Resumed answer → RenewsSound bytes
