use Rattle.std.proofs.Common.{◌≡◌, [], rules}
use Rattle.law_reports.specs.Lines.{values_text}
use Rattle.smv_report_lines.proofs.Parts.{no_values, of_state}
use Rattle.smv_report_lines.proofs.paths.push_state.Goals as goal

-- the values end first
pub returns-in_default-2 : goal.returns-in_default-2
returns-in_default-2 c =
    let none : values_text c.args.design.now c.loop-elements.elements.now c.loop-elements.values.now ≡ [] = no_values c.args.design.now c.loop-elements.elements.now c.loop-elements.values.now (search rules) in
    search (rules, none, of_state)
