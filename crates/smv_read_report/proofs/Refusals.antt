-- The first line that may not stand where it does.
use Rattle.std.proofs.Common.{◌≡◌, ◌∙◌, ◌+◌, ◌≤◌, ℕ, List, [], ◌∷◌, ap, arith, get_or, length, sym}
use Rattle.std.specs.Prelude.{Option, None, Result, Err}
use Rattle.smv_read_report.specs.declared.line.Line.{Line}
use Rattle.smv_read_report.specs.declared.reading.FalseUnit.{FalseUnit}
use Rattle.smv_read_report.specs.declared.reading.Reading.{Reading}
use Rattle.smv_read_report.specs.declared.reading.ReportFault.{ReportFault}
use Rattle.smv_read_report.specs.declared.reading.ReadFailure.TheVariants.{Fault}
use Rattle.smv_read_report.specs.Pieces.{pieces}
use Rattle.smv_read_report.specs.Lines.{line_of}
use Rattle.smv_read_report.specs.Reports.{Tells, followed, line_fault, read_from, with_line}

pub refused : (n : ℕ) (reading : Reading) (lines : List (List ℕ)) (item : List ℕ) (line : Line) (number : ℕ) (read : Result (List FalseUnit) ReportFault) → 2 ≤ length lines → read_from n reading lines ≡ read →
    item ≡ get_or lines 0 item → line ≡ line_of (pieces 32 item) → with_line reading line ≡ None → number ≡ line_fault line → Tells (Fault (record { number = number; line = n })) read
refused n reading [] item line number read long same first is none fault = absurd (omega arith)
refused n reading (own ∷ []) item line number read long same first is none fault = absurd (omega arith)
refused n reading (own ∷ other ∷ more) item line number read long same first is none fault =
    let said : line_of (pieces 32 own) ≡ line = ap (λ (bytes : List ℕ). line_of (pieces 32 bytes)) (sym first) ∙ sym is in
    let error : read ≡ Err (record { number = line_fault (line_of (pieces 32 own)); line = n })
    = sym same ∙ ap (λ (next : Option Reading). followed next (λ reading. read_from (n + 1) reading (other ∷ more)) (record { number = line_fault (line_of (pieces 32 own)); line = n })) (ap (with_line reading) said ∙ none) in
    rw error (ap (λ (k : ℕ). record { number = k; line = n }) (ap line_fault said ∙ sym fault))
