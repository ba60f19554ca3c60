use Rattle.std.specs.Prelude.{◌≡◌, ◌+◌, ◌++◌, drop}
use Rattle.smv_waveforms.specs.Vcd.{later_lines}
use Rattle.smv_waveforms.proofs.times.push_later.Given as goal

abbrev pub invariant-loop-index : goal.invariant-loop-index
invariant-loop-index l = l.out.items ++ later_lines (l.index + 1) (drop l.index l.texts) ≡ l.initial.out.items ++ later_lines 1 l.texts
