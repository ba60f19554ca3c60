use Rattle.std.proofs.Common.{List, ◌∷◌, false, true, sym, subst}
use Rattle.bdd_store.specs.declared.Ref.{Ref}
use Rattle.bdd_store.specs.Diagram.{IsLive, table}
use Rattle.law_arrangements.specs.Orders.{arranged}
use Rattle.smv_cells.specs.declared.cells.Cell.{Cell}
use Rattle.smv_cells.specs.Cells.{AreCellsMade}
use Rattle.smv_cells.specs.Seen.{IsSeen}
use Rattle.smv_encode.specs.Coded.{view_at}
use Rattle.smv_encode.proofs.Calls.{list_kept, list_seen}
use Rattle.smv_wires.specs.Wired.{kept_beside, state_beside, view_beside}
use Rattle.smv_wires.proofs.Under.{keeps_again, reads_again}
use Rattle.smv_wires.proofs.tries.put_back.Goals as goal

pub add_coded-requires : goal.add_coded-requires
add_coded-requires c = record { coded = subst (AreCellsMade (IsLive c.args.store.now)) (sym c.as_slice-current.ensures.value) c.requires.coded.current; live = c.requires.live.current }

pub add_coded-requires-2 : goal.add_coded-requires-2
add_coded-requires-2 c = record {
  coded = subst (AreCellsMade (IsLive c.add_coded.new.store)) (sym c.as_slice-next.ensures.value) (list_kept c.args.store.now c.add_coded.new.store c.args.coded.now.next.items c.in_ok-add_coded.ensures.keeps c.requires.coded.next);
  live = list_kept c.args.store.now c.add_coded.new.store c.args.cells.now.next.items c.in_ok-add_coded.ensures.keeps c.requires.live.next;
}

pub returns-clause-live : goal.returns-clause-live
returns-clause-live c = record { current = list_kept c.add_coded.new.store c.add_coded-2.new.store c.add_coded.new.cells.items c.in_ok-add_coded-2.ensures.keeps c.in_ok-add_coded.ensures.live; next = c.in_ok-add_coded-2.ensures.live }

pub returns-clause-cells : goal.returns-clause-cells
returns-clause-cells c = λ d is well order ordered coded done x left hx under beside.
    let p = c.args.problem.now in
    let keeps = c.in_ok-add_coded.ensures.keeps in
    let shown : IsSeen table c.args.store.now p c.as_slice-current.result.now (view_at d (arranged order) false) = subst (λ (cs : List (Cell Ref)). IsSeen table c.args.store.now p cs (view_at d (arranged order) false)) (sym c.as_slice-current.ensures.value) coded.current in
    let later : IsSeen table c.add_coded.new.store p c.as_slice-next.result.now (view_at d (arranged order) true) =
    subst (λ (cs : List (Cell Ref)). IsSeen table c.add_coded.new.store p cs (view_at d (arranged order) true)) (sym c.as_slice-next.ensures.value)
    (list_seen c.args.store.now c.add_coded.new.store p c.args.coded.now.next.items (view_at d (arranged order) true) keeps c.requires.coded.next coded.next) in
    record {
      current = list_seen c.add_coded.new.store c.add_coded-2.new.store p c.add_coded.new.cells.items (view_beside d order done left false) c.in_ok-add_coded-2.ensures.keeps c.in_ok-add_coded.ensures.live
          (c.in_ok-add_coded.ensures.seen d is well order false shown x hx (kept_beside d (x ∷ left)) (kept_beside d left) (state_beside d order done (x ∷ left) false) (keeps_again p d well order ordered done x left under false)
          (reads_again p d well order ordered done x left under false) beside.current);
      next = c.in_ok-add_coded-2.ensures.seen d is well order true later x hx (kept_beside d (x ∷ left)) (kept_beside d left) (state_beside d order done (x ∷ left) true) (keeps_again p d well order ordered done x left under true)
          (reads_again p d well order ordered done x left under true) (list_seen c.args.store.now c.add_coded.new.store p c.args.cells.now.next.items (view_beside d order done (x ∷ left) true) keeps c.requires.live.next beside.next);
    }
