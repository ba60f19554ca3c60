use Rattle.std.proofs.Common.{rules, ◌≡◌}
use Rattle.smv_eval.specs.States.{state_cells}
use Rattle.smv_eval.proofs.StateLaws.{cells_seen}
use Rattle.smv_eval.proofs.states.cells_of.Goals as goal

pub returns : goal.returns
returns c case is well a state same s =
    let h = c.in_ok-cells.ensures in
    let i = c.as_slice.ensures in
    let j = c.as_slice-2.ensures in
    let made : c.in_ok-cells.cells.items ≡ state_cells c.args.problem.now c.args.problem.now.elements c.args.state.now.values = search (rules, h, i, j) in
    cells_seen c.args.problem.now c.args.state.now c.in_ok-cells.cells.items made case is well a state same s
