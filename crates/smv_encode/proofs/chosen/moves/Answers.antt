use Rattle.std.proofs.Common.{◌∙◌}
use Rattle.smv_encode.proofs.Choices.{moves_are}
use Rattle.smv_encode.proofs.chosen.moves.Goals as goal

pub returns : goal.returns
returns c = λ d is well x h e ds are. moves_are d well c.args.problem.now is x c.args.element.now h e c.as_slice.result.now (c.as_slice.ensures ∙ c.in_ok-indexes.ensures) ds c.args.demands.now are c.some_moves.result c.some_moves.ensures
