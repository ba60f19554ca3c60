-- A line that may not stand where it does is the fault.
use Rattle.std.proofs.Common.{ap, sym, ◌∙◌}
use Rattle.smv_read_report.specs.Pieces.{pieces}
use Rattle.smv_read_report.specs.Lines.{line_of}
use Rattle.smv_read_report.specs.Reports.{nothing_read, read_from}
use Rattle.smv_read_report.proofs.Refusals.{refused}
use Rattle.smv_read_report.proofs.reading.units_of.Goals as goal

pub returns-in-None : goal.returns-in-None
returns-in-None c =
    refused c.loop-rest.number c.loop-rest.reading c.loop-rest.rest.now c.line-item.result c.in_ok-line.line c.line_fault.result (read_from 1 nothing_read c.args.lines.now) c.in-len2-up.len_at_least c.loop-rest.invariant.same c.line-item.is
    (c.in_ok-line.ensures ∙ ap line_of (c.as_slice.ensures.value ∙ c.in_ok-pieces.ensures ∙ ap (pieces 32) c.as_bytes.ensures))
    (sym c.in_ok-reading.ensures ∙ c.in-None.is)
    c.line_fault.ensures
