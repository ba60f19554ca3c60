use Rattle.std.proofs.Common.{rules, ◌≤◌, ◌∙◌, length, arith}
use Rattle.bdd_store.specs.Diagram.{IsLive}
use Rattle.bdd_codes.specs.Codes.{AreWithin}
use Rattle.smv_readings.specs.StateBits.{bits_of_elements}
use Rattle.smv_cells.specs.Cells.{AreCellsMade}
use Rattle.smv_encode.specs.Coded.{HaveValues}
use Rattle.smv_encode.proofs.CodedCells.{first_has, others_have, first_room, more_made, coded_more}
use Rattle.smv_encode.proofs.Calls.{within_on, own_within, behind_within}
use Rattle.smv_encode.proofs.coded.+add_cells.Goals as goal

pub split_at-requires : goal.split_at-requires
split_at-requires t c =
    let k = c.in-Some.ensures.cases in
    let bits = first_room c.args.problem.now c.args.elements.now c.in-Some.others.now c.in-Some.element.now k.0 in
    let wide = c.width.ensures in
    omega (arith, bits, wide)

pub cell_at-requires-clause-some : goal.cell_at-requires-clause-some
cell_at-requires-clause-some t c = let k = c.in-Some.ensures.cases in first_has c.args.problem.now c.args.elements.now c.in-Some.others.now c.in-Some.element.now k.0 c.requires.some

pub cell_at-requires-clause-width : goal.cell_at-requires-clause-width
cell_at-requires-clause-width t c = c.split_at.ensures.front_len ∙ c.width.ensures

pub cell_at-requires-clause-places : goal.cell_at-requires-clause-places
cell_at-requires-clause-places t c = own_within c.args.store.now c.args.places.now c.split_at.result.0.now c.split_at.result.1.now c.split_at.ensures.by_index.0 c.requires.places

pub add_cells-requires : goal.add_cells-requires
add_cells-requires t c =
    let k = c.in-Some.ensures.cases in
    let some : HaveValues c.args.problem.now c.in-Some.others.now = others_have c.args.problem.now c.args.elements.now c.in-Some.others.now c.in-Some.element.now k.0 c.requires.some in
    let bits = first_room c.args.problem.now c.args.elements.now c.in-Some.others.now c.in-Some.element.now k.0 in
    let wide = c.width.ensures in
    let long = c.split_at.ensures.back_len in
    let room : bits_of_elements c.args.problem.now.families c.args.problem.now.lists c.args.problem.now.types c.in-Some.others.now ≤ length c.split_at.result.1.now = omega (arith, bits, wide, long) in
    let places : AreWithin c.cell_at.new.store c.split_at.result.1.now =
    within_on c.args.store.now c.cell_at.new.store c.split_at.result.1.now c.in_ok-cell.ensures.keeps (behind_within c.args.store.now c.args.places.now c.split_at.result.0.now c.split_at.result.1.now c.split_at.ensures.by_index.0 c.requires.places) in
    let made : AreCellsMade (IsLive c.cell_at.new.store) c.push.new.self.items = more_made c.args.store.now c.cell_at.new.store c.args.cells.now.items c.push.new.self.items c.in_ok-cell.cell c.in_ok-cell.ensures.keeps c.requires.made c.in_ok-cell.ensures.made c.in_ok-push.ensures.items in
    search (rules, some, room, places, made)

pub returns-clause-coded : goal.returns-clause-coded
returns-clause-coded t c =
    let k = c.in-Some.ensures.cases in
    coded_more c.args.problem.now c.cell_at.new.store c.add_cells.new.store c.args.next c.split_at.result.0.now c.split_at.result.1.now c.args.places.now c.args.elements.now c.in-Some.others.now c.in-Some.element.now c.args.cells.now.items c.push.new.self.items c.add_cells.new.cells.items c.in_ok-cell.cell
    k.0 c.in_ok-push.ensures.items c.in_ok-add_cells.ensures.keeps c.in_ok-cell.ensures.made c.split_at.ensures.by_index.0 (c.split_at.ensures.front_len ∙ c.width.ensures) c.in_ok-cell.ensures.coded c.in_ok-add_cells.ensures.coded
