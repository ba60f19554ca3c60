use Rattle.std.specs.Prelude.{◌≡◌, drop}
use Rattle.smv_waveforms.specs.Vcd.{side_by_side}
use Rattle.smv_waveforms.proofs.Beside.{beside_from}
use Rattle.smv_waveforms.proofs.times.put_beside.Given as goal

abbrev pub invariant-loop-time : goal.invariant-loop-time
invariant-loop-time l = beside_from l.time l.texts.items (drop l.time l.others) ≡ side_by_side l.initial.texts.items l.others
