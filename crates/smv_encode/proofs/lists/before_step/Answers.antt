use Rattle.std.proofs.Common.{◌∙◌, map}
use Rattle.std.specs.List.{filter, flat_map}
use Rattle.law_obligations.specs.Readings.{Slot, slots}
use Rattle.law_reports.specs.CaseLists.{those_of, claims}
use Rattle.law_arrangements.specs.ArrangedLists.{met_step}
use Rattle.smv_encode.proofs.Calls.{live_on, cells_on}
use Rattle.smv_encode.specs.Parts.{is_turn}
use Rattle.smv_encode.specs.declared.elements.Turn.TheVariants as turn
use Rattle.smv_encode.proofs.Adds.{demands_shown}
use Rattle.smv_encode.proofs.Whole.{elements_are, elements_shown, before_are, no_refs, three_parts, before_turns}
use Rattle.smv_encode.proofs.lists.before_step.Goals as goal

pub add_before-requires-clause-out : goal.add_before-requires-clause-out
add_before-requires-clause-out c = no_refs c.args.store.now c.new-refs.result.items c.new-refs.ensures.items

pub add_before-requires-2-clause-cells : goal.add_before-requires-2-clause-cells
add_before-requires-2-clause-cells c = live_on c.args.store.now c.add_before.new.store c.args.cells.now c.in_ok-add_before.ensures.keeps c.requires.cells

pub add_claims-requires-clause-cells : goal.add_claims-requires-clause-cells
add_claims-requires-clause-cells c = live_on c.add_before.new.store c.add_before-2.new.store c.args.cells.now c.in_ok-add_before-2.ensures.keeps (live_on c.args.store.now c.add_before.new.store c.args.cells.now c.in_ok-add_before.ensures.keeps c.requires.cells)

pub returns-clause-list : goal.returns-clause-list
returns-clause-list c = λ d is well o are.
    let p = c.args.problem.now in
    let cells = c.args.cells.now in
    let s = c.args.store.now in
    let t = c.add_before.new.store in
    let live = live_on s t cells c.in_ok-add_before.ensures.keeps c.requires.cells in
    let are_then = cells_on d o s t p cells c.in_ok-add_before.ensures.keeps c.requires.cells are in
    let all = elements_shown d d.elements p.elements c.as_slice-elements.result.now c.as_slice-elements.ensures (elements_are p d is) in
    three_parts s t c.add_before-2.new.store c.add_claims.new.store c.new-refs.result.items c.add_before.new.out.items c.add_before-2.new.out.items c.add_claims.new.out.items
    (map (met_step d o) (flat_map (λ (slot : Slot). those_of d.problem.before slot.element) (filter (is_turn d.problem.before turn.Moving) (slots d))))
    (map (met_step d o) (flat_map (λ (slot : Slot). those_of d.problem.before slot.element) (filter (is_turn d.problem.before turn.Others) (slots d))))
    (map (met_step d o) (claims d d.problem.before)) c.new-refs.ensures.items
    (c.in_ok-add_before.ensures.adds d is well o are d.elements all 0)
    (c.in_ok-add_before-2.ensures.adds d is well o are_then d.elements all 0)
    (c.in_ok-add_claims.ensures.adds d is well o (cells_on d o t c.add_before-2.new.store p cells c.in_ok-add_before-2.ensures.keeps live are_then) d.problem.before
    (demands_shown d d.problem.before p.before c.as_slice-demands.result.now c.as_slice-demands.ensures (before_are p d is well)))
    ∙ before_turns d (met_step d o)
