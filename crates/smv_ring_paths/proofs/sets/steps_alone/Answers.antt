use Rattle.std.proofs.Common.{rules}
use Rattle.smv_ring_paths.proofs.Images.{alone_rel}
use Rattle.smv_ring_paths.proofs.sets.steps_alone.Goals as goal

pub returns-clause-rel : goal.returns-clause-rel
returns-clause-rel c =
    alone_rel c.args.store.now _ c.args.fs.now c.new.ensures.items c.new-2.ensures.items (search rules) c.new-3.ensures.items
    c.constant-always.ensures.live c.constant-always.ensures.constant c.constant-always.ensures.live c.requires.live c.requires.vars
