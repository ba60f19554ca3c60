use Rattle.std.specs.Prelude.{◌≡◌, ◌++◌, drop}
use Rattle.smv_waveforms.specs.Vcd.{all_scopes}
use Rattle.smv_waveforms.proofs.scopes.push_scopes.Given as goal

abbrev pub invariant-loop-unit : goal.invariant-loop-unit
invariant-loop-unit l = l.out.items ++ all_scopes l.first (drop l.unit-index l.units) ≡ l.initial.out.items ++ all_scopes 0 l.units
