use Rattle.std.proofs.Common.{◌∙◌, map, length, false}
use Rattle.std.specs.List.{filter}
use Rattle.law_obligations.specs.Readings.{slots}
use Rattle.law_reports.specs.CaseLists.{claims}
use Rattle.law_arrangements.specs.ArrangedLists.{met_first}
use Rattle.smv_encode.proofs.CodedCells.{all_room}
use Rattle.smv_encode.proofs.Calls.{live_on, cells_on}
use Rattle.smv_encode.specs.Parts.{element_at, has_turn}
use Rattle.smv_encode.specs.declared.elements.Turn.TheVariants as turn
use Rattle.smv_encode.proofs.Adds.{demands_shown}
use Rattle.smv_encode.proofs.Whole.{elements_are, elements_shown, now_are, no_refs, two_parts}
use Rattle.smv_encode.proofs.Wires.{every_wired}
use Rattle.smv_encode.proofs.lists.now_first.Goals as goal

pub add_elements-requires-clause-room : goal.add_elements-requires-clause-room
add_elements-requires-clause-room c = all_room c.args.problem.now c.as_slice-elements.result.now (length c.args.places.now) c.as_slice-elements.ensures c.requires.room

pub add_elements-requires-clause-out : goal.add_elements-requires-clause-out
add_elements-requires-clause-out c = no_refs c.args.store.now c.new-refs.result.items c.new-refs.ensures.items

pub add_claims-requires-clause-cells : goal.add_claims-requires-clause-cells
add_claims-requires-clause-cells c = live_on c.args.store.now c.add_elements.new.store c.args.cells.now c.in_ok-add_elements.ensures.keeps c.requires.cells

pub returns-clause-list : goal.returns-clause-list
returns-clause-list c = λ d is well o are wires placed.
    two_parts c.args.store.now c.add_elements.new.store c.add_claims.new.store c.new-refs.result.items c.add_elements.new.out.items c.add_claims.new.out.items
    (map (element_at d o false) (filter (has_turn o d.problem.now turn.All) (slots d))) (map (met_first d o) (claims d d.problem.now)) c.new-refs.ensures.items
    (c.in_ok-add_elements.ensures.adds d is well o are wires d.elements (elements_shown d d.elements c.args.problem.now.elements c.as_slice-elements.result.now c.as_slice-elements.ensures (elements_are c.args.problem.now d is)) 0 placed)
    (c.in_ok-add_claims.ensures.adds d is well o (cells_on d o c.args.store.now c.add_elements.new.store c.args.problem.now c.args.cells.now c.in_ok-add_elements.ensures.keeps c.requires.cells are) d.problem.now
    (demands_shown d d.problem.now c.args.problem.now.now c.as_slice-demands.result.now c.as_slice-demands.ensures (now_are c.args.problem.now d is well)))
    ∙ every_wired o d.problem.now (slots d) (element_at d o false) (map (met_first d o) (claims d d.problem.now))
