use Rattle.std.proofs.lemmas.Slice.Zip.{either_empty_from_Zip}
use Rattle.smv_eval.proofs.StateLaws.{cells_end}
use Rattle.smv_eval.proofs.states.cells_with.Goals as goal

pub returns : goal.returns
returns c = cells_end c.args.problem.now _ _ _ _ (either_empty_from_Zip c.loop-element.element-iterator c.next.new.self c.next.result c.in-None.is c.next.ensures.steps) c.loop-element.invariant
