use Rattle.std.proofs.Common.{◌∙◌, ap, length}
use Rattle.smv_look_aiger.proofs.codes.states.Goals as goal

pub read_state-requires-clause-length : goal.read_state-requires-clause-length
read_state-requires-clause-length c = λ case e well. ap length c.as_slice-in-loop-code.ensures.value ∙ c.in_ok-bits.ensures case e well
