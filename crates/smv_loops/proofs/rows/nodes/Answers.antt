use Rattle.std.proofs.Common.{◌≡◌, ◌+◌, ◌++◌, ℕ, List, map, length, slice_get, ap, ◌∙◌, arith}
use Rattle.std.specs.List.{flat_map}
use Rattle.smv_core.specs.Assignments.{Index}
use Rattle.law_designs.specs.Loops.{cells_of}
use Rattle.smv_loops.specs.Cells.{number_in}
use Rattle.smv_loops.specs.Edges.{total}
use Rattle.smv_indexes.specs.Indexes.{index_of}
use Rattle.smv_loops.specs.Held.{index_in}
use Rattle.smv_loops.specs.Rows.{stands_for}
use Rattle.smv_loops.proofs.RowLaws.{on-ok, numbers-below, push-numbers, all-more, all-weaker}
use Rattle.smv_loops.proofs.rows.nodes.Goals as goal

pub returns-clause-stand : goal.returns-clause-stand
returns-clause-stand c =
    let families = c.args.families.now in
    let rows = c.args.rows.now.rows.items in
    let family = c.args.read.family in
    let out = c.args.out.now.items in
    let is : List Index = map index_of c.as_slice-in-None.result.now in
    let same : is ≡ map index_in c.args.read.indexes.now = ap (map index_of) c.as_slice-in-None.ensures.value ∙ c.in_ok-indexes.ensures in
    on-ok c.cells_at.result _ _ (λ e.
    push-numbers families rows out (map (number_in families) (cells_of (slice_get families family) family is)) c.cells_at.new.out.items (numbers-below families family is) e
    ∙ ap (λ (is : List Index). flat_map (stands_for families rows) out ++ map (number_in families) (cells_of (slice_get families family) family is)) same) c.cells_at.ensures

pub returns-clause-below : goal.returns-clause-below
returns-clause-below c = λ h.
    let families = c.args.families.now in
    let family = c.args.read.family in
    let nodes : ℕ = total families + length c.args.rows.now.rows.items in
    let is : List Index = map index_of c.as_slice-in-None.result.now in
    let more : List ℕ = map (number_in families) (cells_of (slice_get families family) family is) in
    on-ok c.cells_at.result _ _ (λ e.
    all-more nodes c.args.out.now.items more c.cells_at.new.out.items h (all-weaker (total families) nodes more (omega arith) (numbers-below families family is)) e) c.cells_at.ensures
