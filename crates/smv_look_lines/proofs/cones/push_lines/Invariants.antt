use Rattle.std.specs.Prelude.{◌≡◌, ◌++◌, drop, option_copied}
use Rattle.smv_look_lines.specs.Cones.{element_lines}
use Rattle.smv_look_lines.proofs.cones.push_lines.Given as goal

abbrev pub invariant-loop-x : goal.invariant-loop-x
invariant-loop-x l =
    l.out.items ++ element_lines (record { design = l.look.design.now; units = l.look.units.now }) l.look.choice.now l.look.types.now (option_copied l.target) (drop l.x-index l.elements)
    ≡ l.initial.out.items ++ element_lines (record { design = l.look.design.now; units = l.look.units.now }) l.look.choice.now l.look.types.now (option_copied l.target) l.elements
