use Rattle.std.proofs.Common.{◌∷◌, ◌++◌, [], false, true, refl}
use Rattle.smv_encode.proofs.Calls.{list_kept, list_seen}
use Rattle.smv_wires.specs.Wired.{view_beside}
use Rattle.smv_wires.proofs.Seeing.{some_says}
use Rattle.smv_wires.proofs.Tests.{all_made}
use Rattle.smv_wires.proofs.Values.{made_pushed}
use Rattle.smv_wires.proofs.tries.wire_cells.Goals as goal

pub wire_cell-requires-2 : goal.wire_cell-requires-2
wire_cell-requires-2 c = record { live = list_kept c.args.store.now c.wire_cell.new.store c.args.cells.now.next.items c.in_ok-current.ensures.keeps c.requires.live.next }

pub returns-clause-made : goal.returns-clause-made
returns-clause-made c = (all_made c.wire_cell.new.store c.wire_cell-2.new.store _ c.in_ok-next.ensures.keeps (some_says _ _ _ c.in-Some.is c.in_ok-current.ensures.made), some_says _ _ _ c.in-Some-2.is c.in_ok-next.ensures.made)

pub returns-clause-found : goal.returns-clause-found
returns-clause-found c = λ d is well order done x left tried try beside.
    let p = c.args.problem.now in
    let own = c.args.cells.now in
    let keeps = c.in_ok-current.ensures.keeps in
    let more = c.in_ok-next.ensures.keeps in
    record {
      are_determined = some_says _ _ _ c.in-Some.is c.in_ok-current.ensures.determined d is well order done x left false tried try beside.current;
      current = list_seen c.wire_cell.new.store c.wire_cell-2.new.store p (own.current.items ++ c.in-Some.current ∷ []) (view_beside d order (done ++ x ∷ []) left false) more
          (made_pushed c.wire_cell.new.store own.current.items _ _ (list_kept c.args.store.now c.wire_cell.new.store own.current.items keeps c.requires.live.current) (some_says _ _ _ c.in-Some.is c.in_ok-current.ensures.made) refl)
          (some_says _ _ _ c.in-Some.is c.in_ok-current.ensures.seen d is well order done x left false tried try beside.current);
      next = some_says _ _ _ c.in-Some-2.is c.in_ok-next.ensures.seen d is well order done x left true tried try (list_seen c.args.store.now c.wire_cell.new.store p own.next.items (view_beside d order done (x ∷ left) true) keeps c.requires.live.next beside.next);
    }
