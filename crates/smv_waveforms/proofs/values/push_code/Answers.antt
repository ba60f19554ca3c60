-- One digit more is written.
use Rattle.std.proofs.Common.{rules, ◌++◌}
use Rattle.smv_waveforms.specs.Values.{code_digits}
use Rattle.smv_waveforms.proofs.Codes.{code_next}
use Rattle.smv_waveforms.proofs.values.push_code.Goals as goal

pub loop-places-preserved : goal.loop-places-preserved
loop-places-preserved c =
    code_next c.loop-places.places c.loop-places.rest c.loop-places.out.items c.push.new.self.items (c.args.out.now.items ++ code_digits 10 c.args.number) c.loop-places-test.true c.if-rest-eq0.false (search rules) c.loop-places.invariant
