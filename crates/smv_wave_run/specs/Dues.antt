-- What a call owes: its status, its whole answer, and where that goes.
use Rattle.std.specs.Prelude.{◌≡◌, ℕ, List, [], ◌∷◌, ◌++◌, codes, Option, Some, None, Result, Ok, Err, ◌⊎◌, IfSome, if◌then◌else◌}
use Rattle.std.specs.Fmt.{decimal}
use Rattle.std.specs.Str.{bytes_eq}
use Rattle.std.specs.Io.KnownBytes.{Appends, Keeps}
use Rattle.smv_io.specs.Transfers.{TookFront}
use Rattle.smv_read_report.specs.declared.reading.FalseUnit.{FalseUnit}
use Rattle.smv_read_report.specs.declared.reading.ReportFault.{ReportFault}
use Rattle.smv_read_report.specs.Reports.{report_of}
use Rattle.smv_waveforms.specs.Vcd.{line, vcd}
use Rattle.smv_path_tables.specs.Tables.{tables}
use Rattle.smv_wave_run.specs.declared.Form.{Form}
use Rattle.smv_wave_run.specs.declared.Form.TheVariants.{Dump, Table}
use Rattle.smv_wave_run.specs.declared.Status.{Status}
use Rattle.smv_wave_run.specs.declared.Status.TheVariants.{Written, NoFalseUnit, Refused, Usage, ReadFault, WriteFault, OutOfMemory}

-- the exit status of the program
abbrev pub number_of : Status → ℕ
number_of Written = 0
number_of NoFalseUnit = 1
number_of Refused = 3
number_of Usage = 4
number_of ReadFault = 5
number_of WriteFault = 6
number_of OutOfMemory = 7

abbrev pub fault_line : ReportFault → List ℕ
fault_line fault = line (codes "fault " ++ decimal fault.number ++ codes " at line " ++ decimal fault.line)

-- the status and the answer to what is read of a text
abbrev pub status_for : Result (List FalseUnit) ReportFault → Status
status_for (Ok []) = NoFalseUnit
status_for (Ok (unit ∷ units)) = Written
status_for (Err fault) = Refused

-- how false units are written: as waveforms, or as tables
abbrev pub written_as : Form → List FalseUnit → List ℕ
written_as Dump units = vcd units
written_as Table units = tables units

abbrev pub answer_in : Form → Result (List FalseUnit) ReportFault → List ℕ
answer_in form (Ok []) = line (codes "no false unit")
answer_in form (Ok (unit ∷ units)) = written_as form (unit ∷ units)
answer_in form (Err fault) = fault_line fault

-- the same as waveforms
abbrev pub answer_for : Result (List FalseUnit) ReportFault → List ℕ
answer_for read = answer_in Dump read

-- what the words of the command ask for: waveforms where there are none, and tables by `table`
abbrev pub form_of : List (List ℕ) → Option Form
form_of [] = Some Dump
form_of (word ∷ []) = if bytes_eq word (codes "table") then Some Table else None
form_of _ = None

abbrev pub usage_line : List ℕ
usage_line = line (codes "usage: smv_wave [table] < REPORT > FILE")

-- the status and the answer that a form and a text call for; or the usage, where the words ask for nothing
abbrev pub IsDueTo : Option Form → List ℕ → Status → List ℕ → Type 0
IsDueTo (Some form) text due answer = (due ≡ status_for (report_of text)) × (answer ≡ answer_in form (report_of text))
IsDueTo None text due answer = (due ≡ Usage) × (answer ≡ usage_line)

-- what the source gave: the bytes that it told, or any where it tells none
abbrev pub Gave : Option (List ℕ) → List ℕ → Type 0
Gave left text = IfSome left (λ told. text ≡ told)

-- What was taken before and after the call: by the sink of dumps and tables, and by the sink of notes.
pub record Sinks : Type 0 where
  pub dump_old : Option (List ℕ)
  pub dump_new : Option (List ℕ)
  pub note_old : Option (List ℕ)
  pub note_new : Option (List ℕ)

-- a dump or a table goes to the one sink, any other answer to the other
abbrev pub Goes : Status → (Option (List ℕ) → Option (List ℕ) → List ℕ → Type 0) → Sinks → List ℕ → Type 0
Goes Written Takes s answer = Takes s.dump_old s.dump_new answer × Keeps s.note_old s.note_new
Goes due Takes s answer = Keeps s.dump_old s.dump_new × Takes s.note_old s.note_new answer

-- How a call ends. The whole answer was taken under the status to which it is due; under a fault of its sink a front of it, and not all; and nothing where the text was not read, or where memory ran out.
abbrev pub Ends : Status → Option Form → List ℕ → Sinks → Type 0
Ends ReadFault asked text s = Keeps s.dump_old s.dump_new × Keeps s.note_old s.note_new
Ends OutOfMemory asked text s = Keeps s.dump_old s.dump_new × Keeps s.note_old s.note_new
Ends WriteFault asked text s = (due : Status) × (answer : List ℕ) × IsDueTo asked text due answer × Goes due TookFront s answer
Ends ended asked text s = (answer : List ℕ) × IsDueTo asked text ended answer × Goes ended Appends s answer

-- What a call leaves alone of the sink of dumps and of that of notes, each before and after it: a dump or a table the one of notes, any other answer the one of dumps; under a fault of a sink the other; and both where there is no answer.
abbrev pub LeavesAlone : {K N : Type 0} → Status → K → K → N → N → Type 0
LeavesAlone Written dump_old dump_new note_old note_new = note_new ≡ note_old
LeavesAlone WriteFault dump_old dump_new note_old note_new = (dump_new ≡ dump_old) ⊎ (note_new ≡ note_old)
LeavesAlone ReadFault dump_old dump_new note_old note_new = (dump_new ≡ dump_old) × (note_new ≡ note_old)
LeavesAlone OutOfMemory dump_old dump_new note_old note_new = (dump_new ≡ dump_old) × (note_new ≡ note_old)
LeavesAlone ended dump_old dump_new note_old note_new = dump_new ≡ dump_old
