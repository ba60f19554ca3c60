use Rattle.std.proofs.Common.{◌∙◌, map, length, true}
use Rattle.std.specs.List.{filter}
use Rattle.law_obligations.specs.Readings.{slots}
use Rattle.law_reports.specs.CaseLists.{claims}
use Rattle.law_arrangements.specs.ArrangedLists.{met_step}
use Rattle.smv_encode.proofs.CodedCells.{all_room}
use Rattle.smv_encode.proofs.Calls.{live_on, cells_on, within_on}
use Rattle.smv_encode.specs.Parts.{element_at, has_turn}
use Rattle.smv_encode.specs.declared.elements.Turn.TheVariants as turn
use Rattle.smv_encode.proofs.Adds.{demands_shown}
use Rattle.smv_encode.proofs.Whole.{elements_are, elements_shown, now_are, no_refs, three_parts}
use Rattle.smv_encode.proofs.Wires.{moving_wired}
use Rattle.smv_encode.proofs.lists.now_step.Goals as goal

pub add_elements-requires-clause-room : goal.add_elements-requires-clause-room
add_elements-requires-clause-room c = all_room c.args.problem.now c.as_slice-elements.result.now (length c.args.places.now) c.as_slice-elements.ensures c.requires.room

pub add_elements-requires-clause-out : goal.add_elements-requires-clause-out
add_elements-requires-clause-out c = no_refs c.args.store.now c.new-refs.result.items c.new-refs.ensures.items

pub add_elements-requires-2-clause-cells : goal.add_elements-requires-2-clause-cells
add_elements-requires-2-clause-cells c = live_on c.args.store.now c.add_elements.new.store c.args.cells.now c.in_ok-add_elements.ensures.keeps c.requires.cells

pub add_elements-requires-2-clause-room : goal.add_elements-requires-2-clause-room
add_elements-requires-2-clause-room c = all_room c.args.problem.now c.as_slice-elements.result.now (length c.args.places.now) c.as_slice-elements.ensures c.requires.room

pub add_elements-requires-2-clause-places : goal.add_elements-requires-2-clause-places
add_elements-requires-2-clause-places c = within_on c.args.store.now c.add_elements.new.store c.args.places.now c.in_ok-add_elements.ensures.keeps c.requires.places

pub add_claims-requires-clause-cells : goal.add_claims-requires-clause-cells
add_claims-requires-clause-cells c = live_on c.add_elements.new.store c.add_elements-2.new.store c.args.cells.now c.in_ok-add_elements-2.ensures.keeps (live_on c.args.store.now c.add_elements.new.store c.args.cells.now c.in_ok-add_elements.ensures.keeps c.requires.cells)

pub returns-clause-list : goal.returns-clause-list
returns-clause-list c = λ d is well o are wires placed.
    let p = c.args.problem.now in
    let cells = c.args.cells.now in
    let s = c.args.store.now in
    let t = c.add_elements.new.store in
    let live = live_on s t cells c.in_ok-add_elements.ensures.keeps c.requires.cells in
    let are_then = cells_on d o s t p cells c.in_ok-add_elements.ensures.keeps c.requires.cells are in
    let all = elements_shown d d.elements p.elements c.as_slice-elements.result.now c.as_slice-elements.ensures (elements_are p d is) in
    three_parts s t c.add_elements-2.new.store c.add_claims.new.store c.new-refs.result.items c.add_elements.new.out.items c.add_elements-2.new.out.items c.add_claims.new.out.items
    (map (element_at d o true) (filter (has_turn o d.problem.now turn.Moving) (slots d))) (map (element_at d o true) (filter (has_turn o d.problem.now turn.Others) (slots d))) (map (met_step d o) (claims d d.problem.now)) c.new-refs.ensures.items
    (c.in_ok-add_elements.ensures.adds d is well o are wires d.elements all 0 placed)
    (c.in_ok-add_elements-2.ensures.adds d is well o are_then wires d.elements all 0 placed)
    (c.in_ok-add_claims.ensures.adds d is well o (cells_on d o t c.add_elements-2.new.store p cells c.in_ok-add_elements-2.ensures.keeps live are_then) d.problem.now
    (demands_shown d d.problem.now p.now c.as_slice-demands.result.now c.as_slice-demands.ensures (now_are p d is well)))
    ∙ moving_wired o d.problem.now (slots d) (element_at d o true) (map (met_step d o) (claims d d.problem.now))
