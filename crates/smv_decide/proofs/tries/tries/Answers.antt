use Rattle.std.proofs.Common.{◌∙◌}
use Rattle.smv_decide.proofs.tries.tries.Goals as goal

pub try_both-requires-clause-declared : goal.try_both-requires-clause-declared
try_both-requires-clause-declared c = λ case e well. c.as_slice.ensures.value ∙ c.in_ok-declared.ensures case e well

pub try_both-requires-2-clause-declared : goal.try_both-requires-2-clause-declared
try_both-requires-2-clause-declared c = λ case e well. c.as_slice-2.ensures.value ∙ c.in_ok-declared.ensures case e well
