use Rattle.std.specs.Prelude.{◌≡◌, ◌++◌, length}
use Rattle.smv_waveforms.specs.Vcd.{state_lines}
use Rattle.smv_waveforms.proofs.times.state_text.Given as goal

abbrev pub invariant-loop-kinds : goal.invariant-loop-kinds
invariant-loop-kinds l = l.out.items ++ state_lines l.number l.kinds l.values ≡ state_lines l.initial.number l.initial.kinds l.initial.values

abbrev pub decreases-loop-kinds : goal.decreases-loop-kinds
decreases-loop-kinds l = length l.kinds
