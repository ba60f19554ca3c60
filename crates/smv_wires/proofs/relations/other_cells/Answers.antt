use Rattle.std.proofs.Common.{List, [], false, true, refl, sym, subst}
use Rattle.bdd_store.specs.declared.Ref.{Ref}
use Rattle.bdd_store.specs.Diagram.{IsLive, table}
use Rattle.law_arrangements.specs.Orders.{arranged}
use Rattle.smv_cells.specs.declared.cells.Cell.{Cell}
use Rattle.smv_cells.specs.Cells.{AreCellsMade}
use Rattle.smv_cells.specs.Seen.{IsSeen}
use Rattle.smv_encode.specs.Coded.{view_at}
use Rattle.smv_encode.proofs.Calls.{list_kept, list_seen}
use Rattle.smv_encode.proofs.Whole.{elements_are, elements_shown}
use Rattle.smv_wires.proofs.Behind.{none_seen}
use Rattle.smv_wires.proofs.Under.{begun, no_cells}
use Rattle.smv_wires.proofs.relations.other_cells.Goals as goal

pub add_others-requires : goal.add_others-requires
add_others-requires c = record { coded = subst (AreCellsMade (IsLive c.args.store.now)) (sym c.as_slice-old.ensures.value) c.requires.coded.current; live = no_cells c.args.store.now _ c.new-current.ensures.items }

pub add_others-requires-2 : goal.add_others-requires-2
add_others-requires-2 c = record {
  coded = subst (AreCellsMade (IsLive c.add_others.new.store)) (sym c.as_slice-new.ensures.value) (list_kept c.args.store.now c.add_others.new.store c.args.coded.now.next.items c.in_ok-add_others.ensures.keeps c.requires.coded.next);
  live = no_cells c.add_others.new.store _ c.new-next.ensures.items;
}

pub returns-clause-live : goal.returns-clause-live
returns-clause-live c = record { current = list_kept c.add_others.new.store c.add_others-2.new.store c.add_others.new.cells.items c.in_ok-add_others-2.ensures.keeps c.in_ok-add_others.ensures.live; next = c.in_ok-add_others-2.ensures.live }

pub returns-clause-tried : goal.returns-clause-tried
returns-clause-tried c = λ d is well order coded xs own among apart.
    let p = c.args.problem.now in
    let keeps = c.in_ok-add_others.ensures.keeps in
    let shown = subst (λ (cs : List (Cell Ref)). IsSeen table c.args.store.now p cs (view_at d (arranged order) false)) (sym c.as_slice-old.ensures.value) coded.current in
    let later = subst (λ (cs : List (Cell Ref)). IsSeen table c.add_others.new.store p cs (view_at d (arranged order) true)) (sym c.as_slice-new.ensures.value)
    (list_seen c.args.store.now c.add_others.new.store p c.args.coded.now.next.items (view_at d (arranged order) true) keeps c.requires.coded.next coded.next) in
    let all = elements_shown d d.elements p.elements c.as_slice-elements.result.now c.as_slice-elements.ensures (elements_are p d is) in
    begun d well order xs among apart c.add_others-2.new.store p [] refl _
    (list_seen c.add_others.new.store c.add_others-2.new.store p c.add_others.new.cells.items _ c.in_ok-add_others-2.ensures.keeps c.in_ok-add_others.ensures.live
    (c.in_ok-add_others.ensures.seen d is well order false shown xs (record { written = own; among = among }) d.elements all [] well.elements (none_seen p d is well c.args.store.now order false _ c.new-current.ensures.items)))
    (c.in_ok-add_others-2.ensures.seen d is well order true later xs (record { written = own; among = among }) d.elements all [] well.elements (none_seen p d is well c.add_others.new.store order true _ c.new-next.ensures.items))
