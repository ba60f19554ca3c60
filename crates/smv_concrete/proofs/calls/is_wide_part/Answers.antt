use Rattle.smv_concrete.proofs.Views.{part-least, part-view, wide-is}
use Rattle.smv_concrete.proofs.calls.is_wide_part.Goals as goal

pub cone_of-requires-clause-view : goal.cone_of-requires-clause-view
cone_of-requires-clause-view c = part-view c.args.sizes.now c.args.part.now c.requires.sized c.requires.part

pub cone_of-requires-clause-least : goal.cone_of-requires-clause-least
cone_of-requires-clause-least c = part-least c.args.sizes.now c.args.part.now c.requires.sized c.requires.part

pub returns : goal.returns
returns c = wide-is c.args.sizes.now c.args.part.now c.requires.sized c.requires.part c.in_ok-cone.cone c.is_none.result c.is_none.ensures c.in_ok-cone.ensures
