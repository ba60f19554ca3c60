use Rattle.std.proofs.Common.{◌+◌, map, take, length}
use Rattle.smv_loops.specs.Edges.{AreAdded, total}
use Rattle.smv_loops.specs.Held.{reading_of}
use Rattle.smv_loops.specs.Rows.{stands_for}
use Rattle.smv_loops.proofs.loops.add_links.Given as goal

abbrev pub invariant-loop-x : goal.invariant-loop-x
invariant-loop-x l =
    AreAdded l.families (stands_for l.families l.rows.rows.items) (total l.families + length l.rows.rows.items) l.initial.all.items l.all.items (map reading_of (take l.x-index l.held))
