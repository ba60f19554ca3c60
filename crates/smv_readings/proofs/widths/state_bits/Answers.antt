use Rattle.std.proofs.Common.{◌∙◌}
use Rattle.smv_readings.proofs.Counts.{bits-of-cases, bits-few}
use Rattle.smv_readings.proofs.widths.state_bits.Goals as goal

pub returns : goal.returns
returns c = λ d same well. c.total.ensures ∙ bits-of-cases c.args.problem.now d same

pub total-requires : goal.total-requires
total-requires c = bits-few c.args.problem.now c.requires
