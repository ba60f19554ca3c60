use Rattle.std.proofs.Common.{sym, subst}
use Rattle.law_arrangements.specs.Orders.{arranged}
use Rattle.smv_encode.proofs.Calls.{cells_on, live_on}
use Rattle.smv_wires.specs.Tried.{AreTried}
use Rattle.smv_wires.proofs.relations.wired_cells.Goals as goal

pub try_all-requires : goal.try_all-requires
try_all-requires c = record { coded = live_on c.cells_of.new.store c.other_cells.new.store c.in_ok-coded.coded c.in_ok-cells.ensures.keeps c.in_ok-coded.ensures.live; live = c.in_ok-cells.ensures.live }

pub returns-clause-tried : goal.returns-clause-tried
returns-clause-tried c = λ d is well order ordered placed xs own among apart.
    let p = c.args.problem.now in
    let coded = c.in_ok-coded.ensures.cells d is well order placed in
    c.in_ok-try_all.ensures.tried d is well order ordered (cells_on d (arranged order) c.cells_of.new.store c.other_cells.new.store p c.in_ok-coded.coded c.in_ok-cells.ensures.keeps c.in_ok-coded.ensures.live coded) xs own
    (subst (λ ws. AreTried d order xs c.other_cells.new.store p ws c.in_ok-cells.cells) (sym c.new-wires.ensures.items) (c.in_ok-cells.ensures.tried d is well order coded xs own among apart))
