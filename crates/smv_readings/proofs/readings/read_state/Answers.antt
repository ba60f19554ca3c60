use Rattle.std.proofs.Common.{length}
use Rattle.smv_readings.proofs.Written.{read_written, problem_narrow, problem_bits}
use Rattle.smv_readings.proofs.readings.read_state.Goals as goal

pub read-requires-clause-narrow : goal.read-requires-clause-narrow
read-requires-clause-narrow c = problem_narrow c.args.problem.now c.requires.well_formed

pub read-requires-clause-length : goal.read-requires-clause-length
read-requires-clause-length c = problem_bits c.args.problem.now (length c.args.bits.now) c.requires.well_formed c.requires.length

pub returns : goal.returns
returns c = read_written c.args.problem.now c.args.bits.now c.read.result c.read.ensures
