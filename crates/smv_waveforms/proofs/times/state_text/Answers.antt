-- One of the two lists ends first.
use Rattle.std.proofs.Common.{◌≡◌, [], arith, rules, ◌∙◌}
use Rattle.smv_waveforms.specs.Vcd.{state_lines}
use Rattle.smv_waveforms.proofs.Parts.{all_written, empty_values, no_values}
use Rattle.smv_waveforms.proofs.times.state_text.Goals as goal
use Rattle.smv_waveforms.proofs.times.state_text.Goals.{in_default, in_default-2}

pub returns : goal.returns
returns c =
    let none : state_lines c.loop-kinds.number c.loop-kinds.kinds.now c.loop-kinds.values.now ≡ [] = elim c.if-kinds-lt1.branch [
      | in_default w ↦ empty_values c.loop-kinds.number c.loop-kinds.kinds.now c.loop-kinds.values.now (omega arith)
      | in_default-2 w ↦ no_values c.loop-kinds.number c.loop-kinds.kinds.now c.loop-kinds.values.now (search rules)
    ] in
    c.from_vec.ensures ∙ all_written c.loop-kinds.out.items _ _ none c.loop-kinds.invariant
