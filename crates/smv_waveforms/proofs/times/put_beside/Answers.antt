-- One more text is put, until there are no others.
use Rattle.std.proofs.Common.{arith, sym, ◌∙◌}
use Rattle.smv_waveforms.proofs.Beside.{beside_end, beside_step}
use Rattle.smv_waveforms.proofs.times.put_beside.Goals as goal

pub loop-time-preserved : goal.loop-time-preserved
loop-time-preserved c =
    beside_step c.loop-time.time c.loop-time.texts.items c.put_at.new.texts.items c.args.others.now c.index-others-time.result c.as_bytes.result.now (omega arith) c.index-others-time.is c.as_bytes.ensures c.in_ok-put_at.ensures
    ∙ c.loop-time.invariant

pub returns : goal.returns
returns c = sym (beside_end c.loop-time.time c.loop-time.texts.items c.args.others.now (omega arith)) ∙ c.loop-time.invariant
