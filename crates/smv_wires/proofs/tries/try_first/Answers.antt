use Rattle.std.proofs.Common.{[], ◌∷◌, ◌++◌, ap, ◌∙◌}
use Rattle.law_arrangements.specs.Orders.{arranged}
use Rattle.smv_encode.proofs.Calls.{cells_on, live_on}
use Rattle.smv_wires.proofs.Seeing.{some_says}
use Rattle.smv_wires.proofs.Under.{try_of, wired_more, back_again, beside_on, live_more, live_same, tried_element}
use Rattle.smv_wires.proofs.tries.try_first.Goals as goal

pub returns-in_ok-keep_wire-in-Some-clause-live : goal.returns-in_ok-keep_wire-in-Some-clause-live
returns-in_ok-keep_wire-in-Some-clause-live c =
    live_more c.wire_cells.new.store c.wire_cells.new.cells c.keep_wire.new.cells _ _ (live_same c.args.store.now c.wire_cells.new.store c.args.cells.now c.wire_cells.new.cells c.in_ok-own.ensures.current c.in_ok-own.ensures.next c.in_ok-own.ensures.keeps c.requires.live)
    (some_says _ _ _ c.in-Some.is c.in_ok-own.ensures.made).0 (some_says _ _ _ c.in-Some.is c.in_ok-own.ensures.made).1 c.in_ok-keep_wire-in-Some.ensures.current c.in_ok-keep_wire-in-Some.ensures.next

pub returns-in_ok-keep_wire-in-Some-clause-tried : goal.returns-in_ok-keep_wire-in-Some-clause-tried
returns-in_ok-keep_wire-in-Some-clause-tried c = λ d is well order ordered coded x left own tried t.
    let p = c.args.problem.now in
    let old = c.args.cells.now in
    let try = try_of d order ordered t.done x left t.under_way in
    wired_more d order x c.args.element.now own left c.args.store.now c.wire_cells.new.store p c.args.wires.now.items c.keep_wire.new.wires.items old c.keep_wire.new.cells t c.in_ok-keep_wire-in-Some.ensures.wires _ _
    (c.in_ok-keep_wire-in-Some.ensures.current ∙ ap (λ cs. cs ++ c.in-Some.own.current ∷ []) c.in_ok-own.ensures.current) (c.in_ok-keep_wire-in-Some.ensures.next ∙ ap (λ cs. cs ++ c.in-Some.own.next ∷ []) c.in_ok-own.ensures.next)
    (some_says _ _ _ c.in-Some.is c.in_ok-own.ensures.found d is well order t.done x left tried try t.cells)

pub put_back-requires : goal.put_back-requires
put_back-requires c = record {
  coded = live_on c.args.store.now c.wire_cells.new.store c.args.coded.now c.in_ok-own.ensures.keeps c.requires.coded;
  live = live_same c.args.store.now c.wire_cells.new.store c.args.cells.now c.wire_cells.new.cells c.in_ok-own.ensures.current c.in_ok-own.ensures.next c.in_ok-own.ensures.keeps c.requires.live;
}

pub returns-in_ok-put_back-in-None-clause-tried : goal.returns-in_ok-put_back-in-None-clause-tried
returns-in_ok-put_back-in-None-clause-tried c = λ d is well order ordered coded x left own tried t.
    let p = c.args.problem.now in
    let s = c.args.store.now in
    let mid = c.wire_cells.new.store in
    back_again d order x left s c.put_back.new.store p c.args.wires.now.items c.args.cells.now c.put_back.new.cells t
    (c.in_ok-put_back-in-None.ensures.cells d is well order ordered (cells_on d (arranged order) s mid p c.args.coded.now c.in_ok-own.ensures.keeps c.requires.coded coded) t.done x left (tried_element d t.done x left t.under_way c.args.element.now own) t.under_way
    (beside_on d order t.done (x ∷ left) s mid p c.args.cells.now c.wire_cells.new.cells c.in_ok-own.ensures.current c.in_ok-own.ensures.next c.in_ok-own.ensures.keeps c.requires.live t.cells))
