use Rattle.std.specs.Prelude.{◌≡◌, ◌++◌, length}
use Rattle.smv_waveforms.specs.Values.{kinds_with}
use Rattle.smv_waveforms.proofs.values.kinds_with.Given as goal

abbrev pub invariant-loop-kinds : goal.invariant-loop-kinds
invariant-loop-kinds l = l.all.items ++ kinds_with l.kinds l.values ≡ kinds_with l.initial.kinds l.initial.values

abbrev pub decreases-loop-kinds : goal.decreases-loop-kinds
decreases-loop-kinds l = length l.kinds
