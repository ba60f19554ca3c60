use Rattle.smv_loops.specs.Order.{all_cells}
use Rattle.smv_loops.proofs.ApartLaws.{all-pairs, apart-cells}
use Rattle.smv_loops.proofs.laws.cells_differ.Goals as goal

pub returns : goal.returns
returns c = λ d. all-pairs (all_cells d) (apart-cells 0 d.families)
