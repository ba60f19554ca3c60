use Rattle.std.proofs.Common.{rules, ◌≡◌, []}
use Rattle.law_reports.specs.Lines.{indexes_text}
use Rattle.smv_report_lines.proofs.Parts.{no_indexes}
use Rattle.smv_report_lines.proofs.values.push_indexes.Goals as goal

-- the indexes end first
pub returns-in_default-2 : goal.returns-in_default-2
returns-in_default-2 c =
    let none : indexes_text c.args.design.now c.loop-types.types.now c.loop-types.indexes.now ≡ [] = no_indexes c.args.design.now c.loop-types.types.now c.loop-types.indexes.now (search rules) in
    search (rules, none)
