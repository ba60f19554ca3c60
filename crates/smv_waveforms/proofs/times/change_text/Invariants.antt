use Rattle.std.specs.Prelude.{◌≡◌, ◌++◌, length}
use Rattle.smv_waveforms.specs.Vcd.{change_lines}
use Rattle.smv_waveforms.proofs.times.change_text.Given as goal

abbrev pub invariant-loop-kinds : goal.invariant-loop-kinds
invariant-loop-kinds l = l.out.items ++ change_lines l.number l.kinds l.olds l.news ≡ change_lines l.initial.number l.initial.kinds l.initial.olds l.initial.news

abbrev pub decreases-loop-kinds : goal.decreases-loop-kinds
decreases-loop-kinds l = length l.kinds
