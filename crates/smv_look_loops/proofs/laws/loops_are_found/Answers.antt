use Rattle.smv_look_loops.proofs.FoundLaws.{loop-found}
use Rattle.smv_look_loops.proofs.laws.loops_are_found.Goals as goal

pub returns : goal.returns
returns c = loop-found
