use Rattle.std.proofs.Common.{rules}
use Rattle.std.proofs.lemmas.List.{nil_from_length}
use Rattle.bdd_store.specs.Diagram.{IsLive}
use Rattle.smv_cells.specs.Cells.{AreCellsMade}
use Rattle.law_arrangements.specs.Orders.{arranged}
use Rattle.smv_encode.specs.Coded.{view_at}
use Rattle.smv_encode.proofs.Calls.{list_kept, list_seen}
use Rattle.smv_wires.proofs.Behind.{last_seen, more_seen}
use Rattle.smv_wires.proofs.coded.+add_others.Goals as goal

pub add_others-requires : goal.add_others-requires
add_others-requires t c =
    let coded : AreCellsMade (IsLive c.add_unless.new.store) c.args.coded.now = list_kept c.args.store.now c.add_unless.new.store c.args.coded.now c.in_ok-add_unless.ensures.keeps c.requires.coded in
    search (rules, coded)

pub returns-in_default-clause-seen : goal.returns-in_default-clause-seen
returns-in_default-clause-seen t c = λ d is well order next coded xs hxs ys hys front apart seen.
    last_seen c.args.problem.now d c.args.store.now c.args.store.now c.args.store.now order next xs ys c.args.elements.now (nil_from_length c.args.elements.now c.in_default.ensures.cases) hys front c.args.cells.now.items seen

pub returns-clause-seen : goal.returns-clause-seen
returns-clause-seen t c = λ d is well order next coded xs hxs ys hys front apart seen.
    let k = c.in-Some.ensures.cases in
    more_seen c.args.problem.now d c.args.store.now c.add_unless.new.store c.add_others.new.store order next xs ys c.args.elements.now c.in-Some.others.now c.in-Some.element.now k.0 hys front apart c.args.cells.now.items c.add_unless.new.cells.items c.add_others.new.cells.items
    (λ x hx fresh s. c.in_ok-add_unless.ensures.seen d is well order next coded xs hxs x hx front fresh s)
    (λ rest hrest more far s. c.in_ok-add_others.ensures.seen d is well order next (list_seen c.args.store.now c.add_unless.new.store c.args.problem.now c.args.coded.now (view_at d (arranged order) next) c.in_ok-add_unless.ensures.keeps c.requires.coded coded) xs hxs rest hrest more far s) seen
