use Rattle.std.proofs.Common.{rules, ◌≡◌, []}
use Rattle.law_reports.specs.Lines.{classes_text}
use Rattle.smv_look_reports.proofs.Steps.{no_classes, no_params}
use Rattle.smv_look_reports.proofs.paths.class_names.Goals.{in_default, in_default-2}
use Rattle.smv_look_reports.proofs.paths.class_names.Goals as goal

-- one of them ends first
pub returns : goal.returns
returns c =
    elim c.if-params-lt1.branch [
      | in_default w ↦ let none : classes_text c.args.design.now c.loop-params.params.now c.loop-params.classes.now ≡ [] = no_params c.args.design.now c.loop-params.params.now c.loop-params.classes.now (search (rules, w)) in search (rules, none)
      | in_default-2 w ↦ let none : classes_text c.args.design.now c.loop-params.params.now c.loop-params.classes.now ≡ [] = no_classes c.args.design.now c.loop-params.params.now c.loop-params.classes.now (search (rules, w)) in search (rules, none)
    ]
