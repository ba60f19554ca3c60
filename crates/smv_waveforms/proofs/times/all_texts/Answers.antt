-- No units are left.
use Rattle.std.proofs.Common.{arith, sym, ◌∙◌}
use Rattle.smv_waveforms.proofs.Beside.{all_end}
use Rattle.smv_waveforms.proofs.times.all_texts.Goals as goal

pub returns : goal.returns
returns c = sym (all_end c.loop-unit.unit-index c.loop-unit.first c.args.units.now c.loop-unit.texts.items (omega arith)) ∙ c.loop-unit.invariant
