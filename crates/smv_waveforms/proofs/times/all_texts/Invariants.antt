use Rattle.std.specs.Prelude.{◌≡◌, drop}
use Rattle.smv_waveforms.specs.Vcd.{all_texts, side_by_side}
use Rattle.smv_waveforms.proofs.times.all_texts.Given as goal

abbrev pub invariant-loop-unit : goal.invariant-loop-unit
invariant-loop-unit l = side_by_side l.texts.items (all_texts l.first (drop l.unit-index l.units)) ≡ all_texts 0 l.units
