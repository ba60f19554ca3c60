use Rattle.std.proofs.Common.{rules}
use Rattle.std.proofs.lemmas.List.{nil_from_length}
use Rattle.smv_encode.specs.Encoded.{AreLiveCells}
use Rattle.law_arrangements.specs.Orders.{arranged}
use Rattle.smv_encode.proofs.Calls.{cells_on, live_on}
use Rattle.smv_wires.proofs.Under.{none_tried, try_then}
use Rattle.smv_wires.proofs.tries.+try_all.Goals as goal

pub try_all-requires : goal.try_all-requires
try_all-requires t c =
    let coded : AreLiveCells c.try_first.new.store c.args.coded.now = live_on c.args.store.now c.try_first.new.store c.args.coded.now c.in_ok-try_first.ensures.keeps c.requires.coded in
    search (rules, coded)

pub returns-in_default-clause-tried : goal.returns-in_default-clause-tried
returns-in_default-clause-tried t c = λ d is well order ordered coded left are tried. none_tried d order c.args.store.now c.args.problem.now c.args.wires.now.items c.args.cells.now left c.args.tried.now (nil_from_length c.args.tried.now c.in_default.ensures.cases) are tried

pub returns-clause-tried : goal.returns-clause-tried
returns-clause-tried t c = λ d is well order ordered coded left are tried.
    let k = c.in-Some.ensures.cases in
    let p = c.args.problem.now in
    try_then d order c.args.store.now c.try_first.new.store c.try_all.new.store p c.args.wires.now.items c.try_first.new.wires.items c.try_all.new.wires.items c.args.cells.now c.try_first.new.cells c.try_all.new.cells left c.args.tried.now c.in-Some.others.now c.in-Some.element.now k.0 are
    (λ x rest own all. c.in_ok-try_first.ensures.tried d is well order ordered coded x rest own all)
    (λ rest all. c.in_ok-try_all.ensures.tried d is well order ordered (cells_on d (arranged order) c.args.store.now c.try_first.new.store p c.args.coded.now c.in_ok-try_first.ensures.keeps c.requires.coded coded) rest all) tried
