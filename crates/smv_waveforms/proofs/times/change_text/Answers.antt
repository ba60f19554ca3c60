-- One of the three lists ends first.
use Rattle.std.proofs.Common.{◌≡◌, [], arith, rules, ◌∙◌}
use Rattle.smv_waveforms.specs.Vcd.{change_lines}
use Rattle.smv_waveforms.proofs.Parts.{all_written, empty_changes, no_news, no_olds}
use Rattle.smv_waveforms.proofs.times.change_text.Goals as goal
use Rattle.smv_waveforms.proofs.times.change_text.Goals.{in_default, in_default-2, in_default-3}

pub returns : goal.returns
returns c =
    let none : change_lines c.loop-kinds.number c.loop-kinds.kinds.now c.loop-kinds.olds.now c.loop-kinds.news.now ≡ [] = elim c.if-kinds-lt1.branch [
      | in_default w ↦ empty_changes c.loop-kinds.number c.loop-kinds.kinds.now c.loop-kinds.olds.now c.loop-kinds.news.now (omega arith)
      | in_default-2 w ↦ no_olds c.loop-kinds.number c.loop-kinds.kinds.now c.loop-kinds.olds.now c.loop-kinds.news.now (search rules)
      | in_default-3 w ↦ no_news c.loop-kinds.number c.loop-kinds.kinds.now c.loop-kinds.olds.now c.loop-kinds.news.now (search rules)
    ] in
    c.from_vec.ensures ∙ all_written c.loop-kinds.out.items _ _ none c.loop-kinds.invariant
