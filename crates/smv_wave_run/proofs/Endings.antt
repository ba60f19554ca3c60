-- How a call ends.
use Rattle.std.proofs.Common.{◌≡◌, ◌≢◌, ◌∙◌, ◌<◌, ℕ, List, [], ◌∷◌, ◌++◌, Bool, true, false, Option, Some, None, Result, Ok, Err, ◌⊎◌, inl, inr, ap, arith, codes, length, refl, sym, subst, true≢false}
use Rattle.std.specs.Io.KnownBytes.{Appends}
use Rattle.smv_io.specs.Transfers.{TookFront}
use Rattle.smv_wave_run.specs.declared.Status.{Status}
use Rattle.smv_wave_run.specs.declared.Status.TheVariants.{Written, NoFalseUnit, Refused, Usage, ReadFault, WriteFault, OutOfMemory}
use Rattle.smv_read_report.specs.declared.reading.FalseUnit.{FalseUnit}
use Rattle.smv_read_report.specs.declared.reading.ReportFault.{ReportFault}
use Rattle.smv_read_report.specs.Reports.{report_of}
use Rattle.smv_wave_run.specs.declared.Form.{Form}
use Rattle.smv_wave_run.specs.Dues.{Ends, Gave, Goes, IsDueTo, LeavesAlone, Sinks, answer_in, status_for, written_as}

pub some_given : (left : Option (List ℕ)) → (text : List ℕ) × Gave left text
some_given None = ([], tt)
some_given (Some told) = (told, refl)

-- a status under which an answer is written whole
abbrev pub is_answered : Status → Bool
is_answered ReadFault = false
is_answered WriteFault = false
is_answered OutOfMemory = false
is_answered _ = true

whole : (asked : Option Form) (text answer : List ℕ) (s : Sinks) (status : Status) → is_answered status ≡ true → IsDueTo asked text status answer → Goes status Appends s answer → Ends status asked text s
whole asked text answer s Written is due goes = (answer, due, goes)
whole asked text answer s NoFalseUnit is due goes = (answer, due, goes)
whole asked text answer s Refused is due goes = (answer, due, goes)
whole asked text answer s Usage is due goes = (answer, due, goes)
whole asked text answer s ReadFault is due goes = absurd (true≢false (sym is))
whole asked text answer s WriteFault is due goes = absurd (true≢false (sym is))
whole asked text answer s OutOfMemory is due goes = absurd (true≢false (sym is))

-- an answer was written whole, or a front of it
pub finished : (asked : Option Form) (text answer : List ℕ) (s : Sinks) (status result : Status) → is_answered status ≡ true → IsDueTo asked text status answer →
    (result ≡ status → Goes status Appends s answer) → (result ≡ WriteFault → Goes status TookFront s answer) → (result ≡ status) ⊎ (result ≡ WriteFault) → Ends result asked text s
finished asked text answer s status result is due taken front (inl same) = subst (λ r. Ends r asked text s) (sym same) (whole asked text answer s status is due (taken same))
finished asked text answer s status result is due taken front (inr fault) = subst (λ r. Ends r asked text s) (sym fault) (status, answer, due, front fault)

-- ---- what is left alone

-- a status under which a dump is written
abbrev is_dump : Status → Bool
is_dump Written = true
is_dump _ = false

-- any other is not that of a dump
no_dump : (status : Status) → is_dump status ≡ false → status ≢ Written
no_dump status other same = true≢false (sym (ap is_dump same) ∙ other)

module _ {K N : Type 0} (dump_old dump_new : K) (note_old note_new : N) where
  after_whole : (status : Status) → is_answered status ≡ true → (status ≡ Written → note_new ≡ note_old) → (status ≢ Written → dump_new ≡ dump_old) → LeavesAlone status dump_old dump_new note_old note_new
  after_whole Written is dumped noted = dumped refl
  after_whole NoFalseUnit is dumped noted = noted (no_dump NoFalseUnit refl)
  after_whole Refused is dumped noted = noted (no_dump Refused refl)
  after_whole Usage is dumped noted = noted (no_dump Usage refl)
  after_whole ReadFault is dumped noted = absurd (true≢false (sym is))
  after_whole WriteFault is dumped noted = absurd (true≢false (sym is))
  after_whole OutOfMemory is dumped noted = absurd (true≢false (sym is))

  after_front : (status : Status) → is_answered status ≡ true → (status ≡ Written → note_new ≡ note_old) → (status ≢ Written → dump_new ≡ dump_old) → LeavesAlone WriteFault dump_old dump_new note_old note_new
  after_front Written is dumped noted = inr (dumped refl)
  after_front NoFalseUnit is dumped noted = inl (noted (no_dump NoFalseUnit refl))
  after_front Refused is dumped noted = inl (noted (no_dump Refused refl))
  after_front Usage is dumped noted = inl (noted (no_dump Usage refl))
  after_front ReadFault is dumped noted = absurd (true≢false (sym is))
  after_front WriteFault is dumped noted = absurd (true≢false (sym is))
  after_front OutOfMemory is dumped noted = absurd (true≢false (sym is))

  -- where an answer was written whole, or a front of it
  pub left_alone : (status result : Status) → is_answered status ≡ true → (status ≡ Written → note_new ≡ note_old) → (status ≢ Written → dump_new ≡ dump_old) → (result ≡ status) ⊎ (result ≡ WriteFault) →
      LeavesAlone result dump_old dump_new note_old note_new
  left_alone status result is dumped noted (inl same) = rw same (after_whole status is dumped noted)
  left_alone status result is dumped noted (inr fault) = rw fault (after_front status is dumped noted)

-- ---- what is due to a text

pub answered_for : (read : Result (List FalseUnit) ReportFault) → is_answered (status_for read) ≡ true
answered_for (Ok []) = refl
answered_for (Ok (unit ∷ units)) = refl
answered_for (Err fault) = refl

pub none_status : (units : List FalseUnit) → length units ≡ 0 → status_for (Ok units) ≡ NoFalseUnit
none_status [] none = refl
none_status (unit ∷ units) none = absurd (omega arith)

pub none_answer : (form : Form) (units : List FalseUnit) → length units ≡ 0 → answer_in form (Ok units) ≡ codes "no false unit" ++ 10 ∷ []
none_answer form [] none = refl
none_answer form (unit ∷ units) none = absurd (omega arith)

pub some_status : (units : List FalseUnit) → 0 < length units → status_for (Ok units) ≡ Written
some_status [] some = absurd (omega arith)
some_status (unit ∷ units) some = refl

pub some_answer : (form : Form) (units : List FalseUnit) → 0 < length units → answer_in form (Ok units) ≡ written_as form units
some_answer form [] some = absurd (omega arith)
some_answer form (unit ∷ units) some = refl

-- a text under which an answer is due: that which is due to what is read of it
pub due_to : (form : Form) (text slice answer bytes : List ℕ) (status : Status) → slice ≡ text → status ≡ status_for (report_of slice) → bytes ≡ answer_in form (report_of slice) → answer ≡ bytes → IsDueTo (Some form) text status answer
due_to form text slice answer bytes status same told written read = rw (← same) (told, read ∙ written)

pub is_told : (text : List ℕ) (status : Status) → status ≡ status_for (report_of text) → is_answered status ≡ true
is_told text status told = rw told (answered_for (report_of text))

pub no_write_fault : (text : List ℕ) (status : Status) → status ≡ status_for (report_of text) → status ≢ WriteFault
no_write_fault text status told same = true≢false (sym (is_told text status told) ∙ ap is_answered same)
