use Rattle.std.specs.Prelude.{◌≡◌, ◌++◌}
use Rattle.smv_waveforms.specs.Values.{code_digits}
use Rattle.smv_waveforms.proofs.values.push_code.Given as goal

abbrev pub invariant-loop-places : goal.invariant-loop-places
invariant-loop-places l = l.out.items ++ code_digits l.places l.rest ≡ l.initial.out.items ++ code_digits 10 l.number

abbrev pub decreases-loop-places : goal.decreases-loop-places
decreases-loop-places l = l.places
