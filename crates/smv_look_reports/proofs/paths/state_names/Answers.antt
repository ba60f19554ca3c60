use Rattle.std.proofs.Common.{rules, ◌≡◌, []}
use Rattle.law_read_reports.specs.Shown.{value_names}
use Rattle.smv_look_reports.proofs.Steps.{no_values, no_elements}
use Rattle.smv_look_reports.proofs.paths.state_names.Goals.{in_default, in_default-2}
use Rattle.smv_look_reports.proofs.paths.state_names.Goals as goal

-- one of them ends first
pub returns : goal.returns
returns c =
    elim c.if-elements-lt1.branch [
      | in_default w ↦ let none : value_names c.args.design.now c.loop-elements.elements.now c.loop-elements.values.now ≡ [] = no_elements c.args.design.now c.loop-elements.elements.now c.loop-elements.values.now (search (rules, w)) in search (rules, none)
      | in_default-2 w ↦ let none : value_names c.args.design.now c.loop-elements.elements.now c.loop-elements.values.now ≡ [] = no_values c.args.design.now c.loop-elements.elements.now c.loop-elements.values.now (search (rules, w)) in search (rules, none)
    ]
