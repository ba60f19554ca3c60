-- What is written of a generated design: how many copies it has, and how many of its units are true.
use Rattle.std.specs.Prelude.{ℕ, List, ◌++◌, length, codes}
use Rattle.std.specs.Fmt.{decimal}
use Rattle.std.specs.List.{count_by}
use Rattle.smv_problem.specs.declared.report.Report.{Report}
use Rattle.law_reports.specs.Lines.{line, is_true}

-- `proved K of M`
abbrev pub proved_line : Report → List ℕ
proved_line r = line (codes "proved " ++ decimal (count_by (λ u. is_true u.verdict) r.units) ++ codes " of " ++ decimal (length r.units))

-- `generated N` and the last line
abbrev pub generated_lines : ℕ → Report → List ℕ
generated_lines copies r = line (codes "generated " ++ decimal copies) ++ proved_line r
