use Rattle.std.proofs.Common.{◌∙◌}
use Rattle.smv_look_aiger.proofs.codes.bits_of.Goals as goal

pub returns : goal.returns
returns c = λ case e well. c.loop-width.invariant ∙ (c.from-count.ensures ∙ c.state_bits.ensures case e well)
