use Rattle.std.proofs.Common.{◌≡◌, length}
use Rattle.smv_loops.specs.Edges.{AreRowLinks}
use Rattle.smv_loops.specs.Rows.{stands_for}
use Rattle.smv_loops.proofs.rows.row_links.Given as goal

abbrev pub invariant-loop-row : goal.invariant-loop-row
invariant-loop-row l = record {
  count : length l.links.items ≡ l.row-index;
  links : AreRowLinks (stands_for l.families l.rows) l.cells l.links.items;
}
