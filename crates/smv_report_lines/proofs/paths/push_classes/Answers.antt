use Rattle.std.proofs.Common.{◌≡◌, [], rules}
use Rattle.law_reports.specs.Lines.{classes_text}
use Rattle.smv_report_lines.proofs.Parts.{no_classes, without}
use Rattle.smv_report_lines.proofs.paths.push_classes.Goals as goal

-- the classes end first
pub returns-in_default-2 : goal.returns-in_default-2
returns-in_default-2 c =
    let none : classes_text c.args.design.now c.loop-params.params.now c.loop-params.classes.now ≡ [] = no_classes c.args.design.now c.loop-params.params.now c.loop-params.classes.now (search rules) in
    search (rules, none, without)
