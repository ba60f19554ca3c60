use Rattle.std.proofs.Common.{rules, refl, map, List}
use Rattle.std.specs.List.{flat_map}
use Rattle.std.proofs.lemmas.List.{nil_from_length}
use Rattle.law_obligations.specs.Readings.{Slot}
use Rattle.law_reports.specs.CaseLists.{those_of}
use Rattle.law_arrangements.specs.ArrangedLists.{met_step}
use Rattle.smv_encode.specs.Encoded.{AreLiveCells}
use Rattle.smv_encode.proofs.Calls.{live_on, cells_on}
use Rattle.smv_encode.specs.Parts.{is_turn}
use Rattle.smv_encode.proofs.Adds.{no_element, some_before, demands_shown}
use Rattle.smv_encode.proofs.Whole.{before_are}
use Rattle.smv_encode.proofs.elements.+add_before.Goals as goal

pub returns-in_default-clause-adds : goal.returns-in_default-clause-adds
returns-in_default-clause-adds t c = λ d is well o are xs h bit.
    no_element d c.args.store.now c.args.store.now c.args.store.now xs c.args.elements.now c.args.out.now.items c.args.out.now.items c.args.out.now.items (is_turn d.problem.before c.args.turn) (nil_from_length c.args.elements.now c.in_default.ensures.cases) h bit
    (λ (slots : List Slot). map (met_step d o) (flat_map (λ (slot : Slot). those_of d.problem.before slot.element) slots)) refl

pub add_before-requires : goal.add_before-requires
add_before-requires t c =
    let cells : AreLiveCells c.add_own_if.new.store c.args.cells.now = live_on c.args.store.now c.add_own_if.new.store c.args.cells.now c.in_ok-add_own_if.ensures.keeps c.requires.cells in
    search (rules, cells, c.in_ok-add_own_if.ensures.out, c.in_ok-add_own_if.ensures.known)

pub returns-clause-adds : goal.returns-clause-adds
returns-clause-adds t c = λ d is well o are xs h bit.
    let k = c.in-Some.ensures.cases in
    some_before d c.args.store.now c.add_own_if.new.store c.add_before.new.store xs c.args.elements.now c.args.out.now.items c.add_own_if.new.out.items c.add_before.new.out.items (is_turn d.problem.before c.args.turn) c.in-Some.element.now c.in-Some.others.now k.0 h bit c.in_ok-taken.taken
    (λ x hx. c.in_ok-taken.ensures d is well x hx d.problem.before (demands_shown d d.problem.before c.args.problem.now.before c.as_slice.result.now c.as_slice.ensures (before_are c.args.problem.now d is well)) bit)
    (met_step d o) (those_of d.problem.before)
    (c.in_ok-add_own_if.ensures.adds d is well o are)
    (c.in_ok-add_before.ensures.adds d is well o (cells_on d o c.args.store.now c.add_own_if.new.store c.args.problem.now c.args.cells.now c.in_ok-add_own_if.ensures.keeps c.requires.cells are))
