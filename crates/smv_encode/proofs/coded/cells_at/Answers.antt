use Rattle.std.proofs.Common.{length}
use Rattle.smv_encode.proofs.CodedCells.{all_have, all_room, all_coded, all_seen}
use Rattle.smv_encode.proofs.coded.cells_at.Goals as goal

pub add_cells-requires-clause-some : goal.add_cells-requires-clause-some
add_cells-requires-clause-some c = all_have c.args.problem.now c.requires.well_formed c.as_slice.result.now c.as_slice.ensures

pub add_cells-requires-clause-room : goal.add_cells-requires-clause-room
add_cells-requires-clause-room c = all_room c.args.problem.now c.as_slice.result.now (length c.args.places.now) c.as_slice.ensures c.requires.room

pub returns-clause-seen : goal.returns-clause-seen
returns-clause-seen c = all_seen c.args.problem.now c.add_cells.new.store c.args.next c.args.places.now c.as_slice.result.now c.new-cells.result.items c.add_cells.new.cells.items c.as_slice.ensures c.new-cells.ensures.items c.in_ok-add_cells.ensures.coded

pub returns-clause-coded : goal.returns-clause-coded
returns-clause-coded c = all_coded c.args.problem.now c.add_cells.new.store c.args.next c.args.places.now c.as_slice.result.now c.new-cells.result.items c.add_cells.new.cells.items c.as_slice.ensures c.new-cells.ensures.items c.in_ok-add_cells.ensures.coded
