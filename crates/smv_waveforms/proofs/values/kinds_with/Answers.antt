-- One of the two lists ends first.
use Rattle.std.proofs.Common.{◌≡◌, [], arith, rules}
use Rattle.smv_waveforms.specs.Values.{kinds_with}
use Rattle.smv_waveforms.proofs.Parts.{all_written, empty_kinds, no_kinds}
use Rattle.smv_waveforms.proofs.values.kinds_with.Goals as goal
use Rattle.smv_waveforms.proofs.values.kinds_with.Goals.{in_default, in_default-2}

pub returns : goal.returns
returns c =
    let none : kinds_with c.loop-kinds.kinds.now c.loop-kinds.values.now ≡ [] = elim c.if-kinds-lt1.branch [
      | in_default w ↦ empty_kinds c.loop-kinds.kinds.now c.loop-kinds.values.now (omega arith)
      | in_default-2 w ↦ no_kinds c.loop-kinds.kinds.now c.loop-kinds.values.now (search rules)
    ] in
    all_written c.loop-kinds.all.items _ _ none c.loop-kinds.invariant
