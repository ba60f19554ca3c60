use Rattle.std.proofs.Common.{◌≡◌, map}
use Rattle.smv_loops.specs.declared.listed.Listed.{Listed}
use Rattle.smv_loops.proofs.listed.cells_of.Given as goal

-- the cells so far
abbrev pub invariant-loop-x : goal.invariant-loop-x
invariant-loop-x l = l.cells ≡ map (λ (x : Listed). x.cell) l.yielded
