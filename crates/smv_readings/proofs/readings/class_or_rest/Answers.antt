use Rattle.std.proofs.Common.{◌-◌, arith}
use Rattle.smv_readings.proofs.ReadValues.{class_at, rest_at, gap_fits}
use Rattle.smv_readings.proofs.readings.class_or_rest.Goals as goal

pub returns-then-place-from : goal.returns-then-place-from
returns-then-place-from c = class_at c.args.t c.args.place (omega arith)

pub overflow_cast-result-2 : goal.overflow_cast-result-2
overflow_cast-result-2 c = omega (arith, gap_fits c.args.t c.args.place (c.args.place - c.from-2.result) c.requires.narrow c.requires.there (omega arith))

pub returns : goal.returns
returns c = rest_at c.args.t c.args.place (c.args.place - c.from-2.result) c.requires.there (omega arith)
