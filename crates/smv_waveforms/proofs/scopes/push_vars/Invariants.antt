use Rattle.std.specs.Prelude.{◌≡◌, ◌++◌, length}
use Rattle.smv_waveforms.specs.Vcd.{var_lines}
use Rattle.smv_waveforms.proofs.scopes.push_vars.Given as goal

abbrev pub invariant-loop-kinds : goal.invariant-loop-kinds
invariant-loop-kinds l = l.out.items ++ var_lines l.number l.kinds l.elements ≡ l.initial.out.items ++ var_lines l.initial.number l.initial.kinds l.initial.elements

abbrev pub decreases-loop-kinds : goal.decreases-loop-kinds
decreases-loop-kinds l = length l.kinds
