use Rattle.std.proofs.Common.{rules, refl, map, ◌∙◌, ap, subst, ◌+◌, ◌≤◌, length, arith}
use Rattle.std.proofs.lemmas.List.{nil_from_length}
use Rattle.smv_core.specs.declared.flat.Element.{Element}
use Rattle.bdd_codes.specs.Codes.{AreWithin}
use Rattle.smv_readings.specs.StateBits.{bits_of_family, bits_of_elements}
use Rattle.smv_orders.specs.Places.{ArePlaces}
use Rattle.smv_encode.specs.Encoded.{AreLiveCells}
use Rattle.smv_encode.specs.Parts.{element_at, has_turn}
use Rattle.smv_orders.proofs.Orders.{places_apart}
use Rattle.smv_encode.proofs.CodedCells.{first_room, width_is}
use Rattle.smv_encode.proofs.Calls.{live_on, cells_on, within_on, own_within, behind_within}
use Rattle.smv_encode.proofs.Adds.{no_element, some_element, one_element}
use Rattle.smv_encode.proofs.elements.+add_elements.Goals as goal

pub returns-in_default-clause-adds : goal.returns-in_default-clause-adds
returns-in_default-clause-adds t c = λ d is well o are wires xs h bit placed.
    no_element d c.args.store.now c.args.store.now c.args.store.now xs c.args.elements.now c.args.out.now.items c.args.out.now.items c.args.out.now.items (has_turn o d.problem.now c.args.turn) (nil_from_length c.args.elements.now c.in_default.ensures.cases) h bit (map (element_at d o c.args.step)) refl

pub split_at-requires : goal.split_at-requires
split_at-requires t c =
    let k = c.in-Some.ensures.cases in
    let bits = first_room c.args.problem.now c.args.elements.now c.in-Some.others.now c.in-Some.element.now k.0 in
    let wide = c.width.ensures in
    omega (arith, bits, wide)

pub add_element_if-requires-clause-width : goal.add_element_if-requires-clause-width
add_element_if-requires-clause-width t c = c.split_at.ensures.front_len ∙ c.width.ensures

pub add_element_if-requires-clause-places : goal.add_element_if-requires-clause-places
add_element_if-requires-clause-places t c = own_within c.args.store.now c.args.places.now c.split_at.result.0.now c.split_at.result.1.now c.split_at.ensures.by_index.0 c.requires.places

pub add_elements-requires : goal.add_elements-requires
add_elements-requires t c =
    let k = c.in-Some.ensures.cases in
    let bits = first_room c.args.problem.now c.args.elements.now c.in-Some.others.now c.in-Some.element.now k.0 in
    let wide = c.width.ensures in
    let long = c.split_at.ensures.back_len in
    let room : bits_of_elements c.args.problem.now.families c.args.problem.now.lists c.args.problem.now.types c.in-Some.others.now ≤ length c.split_at.result.1.now = omega (arith, bits, wide, long) in
    let places : AreWithin c.add_element_if.new.store c.split_at.result.1.now =
    within_on c.args.store.now c.add_element_if.new.store c.split_at.result.1.now c.in_ok-add_element_if.ensures.keeps (behind_within c.args.store.now c.args.places.now c.split_at.result.0.now c.split_at.result.1.now c.split_at.ensures.by_index.0 c.requires.places) in
    let cells : AreLiveCells c.add_element_if.new.store c.args.cells.now = live_on c.args.store.now c.add_element_if.new.store c.args.cells.now c.in_ok-add_element_if.ensures.keeps c.requires.cells in
    search (rules, room, places, cells, c.in_ok-add_element_if.ensures.out, c.in_ok-add_element_if.ensures.known)

pub returns-clause-adds : goal.returns-clause-adds
returns-clause-adds t c = λ d is well o are wires xs h bit placed.
    let k = c.in-Some.ensures.cases in
    let own = c.split_at.result.0.now in
    let apart = places_apart o.order bit own c.split_at.result.1.now (subst (ArePlaces o.order bit) c.split_at.ensures.by_index.0 placed) in
    some_element d c.args.store.now c.add_element_if.new.store c.add_elements.new.store xs c.args.elements.now c.args.out.now.items c.add_element_if.new.out.items c.add_elements.new.out.items (has_turn o d.problem.now c.args.turn) c.in-Some.element.now c.in-Some.others.now k.0 h bit c.in_ok-taken.taken
    (λ x hx. c.in_ok-taken.ensures d is well o wires x hx bit)
    (element_at d o c.args.step)
    (λ x hx. c.in_ok-add_element_if.ensures.adds d is well o are x hx bit apart.0)
    (length own)
    (λ x hx. c.split_at.ensures.front_len ∙ c.width.ensures ∙ ap (λ (y : Element). bits_of_family c.args.problem.now.families c.args.problem.now.lists c.args.problem.now.types y.family) (one_element d x c.in-Some.element.now hx) ∙ width_is c.args.problem.now d is x)
    (λ ys hy. c.in_ok-add_elements.ensures.adds d is well o (cells_on d o c.args.store.now c.add_element_if.new.store c.args.problem.now c.args.cells.now c.in_ok-add_element_if.ensures.keeps c.requires.cells are) wires ys hy (bit + length own) apart.1)
