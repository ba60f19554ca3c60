use Rattle.std.proofs.Common.{◌≡◌, List, map, slice_get, IfSome, subst}
use Rattle.std.specs.List.{All}
use Rattle.law_designs.specs.Loops.{cells_of}
use Rattle.smv_loops.specs.declared.rows.Row.{Row}
use Rattle.smv_loops.specs.Cells.{number_in}
use Rattle.smv_indexes.specs.Indexes.{index_of}
use Rattle.smv_loops.specs.Rows.{IsRow, row_at}
use Rattle.smv_loops.proofs.rows.find.Goals as goal

pub returns-in-Some-clause-cells : goal.returns-in-Some-clause-cells
returns-in-Some-clause-cells c =
    let families = c.args.families.now in
    subst (λ (rows : List Row). All (IsRow families) rows → IfSome c.found.result (λ place. row_at rows place ≡ map (number_in families) (cells_of (slice_get families c.args.family) c.args.family (map index_of c.args.indexes.now)))) c.as_slice.ensures.value (c.found.ensures.cells families)
