use Rattle.std.proofs.Common.{◌∙◌, ap, List, Bool, length}
use Rattle.law_obligations.specs.Readings.{reading}
use Rattle.bdd_ops.specs.Functions.{bit_at}
use Rattle.smv_problem.specs.Written.{written_state}
use Rattle.smv_trace.proofs.Paths.{read_bits, read_worked}
use Rattle.smv_trace.proofs.read_at.Goals as goal

pub read_state-requires-clause-length : goal.read_state-requires-clause-length
read_state-requires-clause-length c = λ d is well. ap (λ (bs : List Bool). length bs) c.as_slice.ensures.value ∙ c.in_ok-bits.ensures.count ∙ c.requires.count d is well

pub returns : goal.returns
returns c = λ d is well o placed xs among by.
    read_worked d well o xs c.args.state.now c.in_ok-read.read c.work_out.new.state
    (c.in_ok-read.ensures d is well
    ∙ ap (λ (bs : List Bool). written_state d (reading d (bit_at bs))) c.as_slice.ensures.value
    ∙ ap (written_state d) (read_bits d o c.args.places.now c.in_ok-bits.bits.items c.args.state.now (c.requires.count d is well) (c.in_ok-bits.ensures.bits o placed)))
    (λ a state old. c.in_ok-work_out.ensures d is well xs among by a state old)
