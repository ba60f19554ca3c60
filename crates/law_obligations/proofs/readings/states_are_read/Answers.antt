use Rattle.law_obligations.proofs.ReadBack.{reading_is_state, state_is_read}
use Rattle.law_obligations.proofs.readings.states_are_read.Goals as goal

pub returns : goal.returns
returns c = record { read = λ k is s. reading_is_state k is s; written = λ k is a state. state_is_read k is a state }
