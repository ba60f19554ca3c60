use Rattle.std.proofs.Common.{[], length, ◌∙◌}
use Rattle.smv_encode.proofs.Calls.{vars_on, within_on}
use Rattle.smv_encode.proofs.CodedCells.{bits_room}
use Rattle.smv_encode.proofs.Wires.{no_wires}
use Rattle.smv_encode.proofs.lists.relations_at.Goals as goal

pub cells_of-requires-clause-room : goal.cells_of-requires-clause-room
cells_of-requires-clause-room c = bits_room c.args.problem.now (length c.args.places.now) c.requires.well_formed c.requires.count

pub relations_by-requires-clause-vars : goal.relations_by-requires-clause-vars
relations_by-requires-clause-vars c = vars_on c.args.problem.now c.args.store.now c.cells_of.new.store c.in_ok-cells.ensures.keeps c.requires.vars

pub relations_by-requires-clause-places : goal.relations_by-requires-clause-places
relations_by-requires-clause-places c = within_on c.args.store.now c.cells_of.new.store c.args.places.now c.in_ok-cells.ensures.keeps c.requires.places

pub returns-clause-rel : goal.returns-clause-rel
returns-clause-rel c = λ order placed long.
    let r = c.requires.well_formed in
    c.in_ok-rel.ensures.rel r.0 r.1 r.2 order [] (record {
      are_places = placed;
      are_counted = long;
      are_wires = no_wires r.0 c.as_slice.result.now (c.as_slice.ensures.value ∙ c.new-wires.ensures.items);
      are_cells = c.in_ok-cells.ensures.cells r.0 r.1 r.2 order placed;
    })

pub returns-clause-lists : goal.returns-clause-lists
returns-clause-lists c = λ d is well order placed long.
    c.in_ok-rel.ensures.lists d is well order [] (record {
      are_places = placed;
      are_counted = long;
      are_wires = no_wires d c.as_slice.result.now (c.as_slice.ensures.value ∙ c.new-wires.ensures.items);
      are_cells = c.in_ok-cells.ensures.cells d is well order placed;
    })
