use Rattle.std.specs.Prelude.{◌≡◌, ◌++◌, drop}
use Rattle.smv_waveforms.specs.Vcd.{later_texts}
use Rattle.smv_waveforms.proofs.times.time_texts.Given as goal

abbrev pub invariant-loop-state : goal.invariant-loop-state
invariant-loop-state l = l.texts.items ++ later_texts l.first l.kinds l.old (drop l.state-index l.later) ≡ l.initial.texts.items ++ later_texts l.first l.kinds l.initial.old l.later
