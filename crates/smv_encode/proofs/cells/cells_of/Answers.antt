use Rattle.std.proofs.Common.{refl}
use Rattle.smv_encode.proofs.Calls.{list_kept, within_on, both_seen}
use Rattle.smv_encode.proofs.CodedCells.{both_coded}
use Rattle.smv_encode.proofs.cells.cells_of.Goals as goal

pub cells_at-requires-2-clause-places : goal.cells_at-requires-2-clause-places
cells_at-requires-2-clause-places c = within_on c.args.store.now c.cells_at.new.store c.args.places.now c.in_ok-current.ensures.keeps c.requires.places

pub returns-clause-live : goal.returns-clause-live
returns-clause-live c = record { current = list_kept c.cells_at.new.store c.cells_at-2.new.store c.in_ok-current.current.items c.in_ok-next.ensures.keeps c.in_ok-current.ensures.made; next = c.in_ok-next.ensures.made }

pub returns-clause-cells : goal.returns-clause-cells
returns-clause-cells c = both_seen c.args.problem.now c.cells_at.new.store c.cells_at-2.new.store c.in_ok-current.current.items c.in_ok-next.next.items c.in_ok-next.ensures.keeps c.in_ok-current.ensures.made c.args.places.now c.in_ok-current.ensures.seen c.in_ok-next.ensures.seen _ refl refl

pub returns-clause-coded : goal.returns-clause-coded
returns-clause-coded c = both_coded c.args.problem.now c.cells_at.new.store c.cells_at-2.new.store c.in_ok-current.current.items c.in_ok-next.next.items c.in_ok-next.ensures.keeps c.in_ok-current.ensures.made c.args.places.now c.in_ok-current.ensures.coded c.in_ok-next.ensures.coded _ refl refl
