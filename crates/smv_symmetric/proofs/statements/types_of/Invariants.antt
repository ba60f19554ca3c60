use Rattle.std.proofs.Common.{◌≡◌, ◌++◌, map, drop}
use Rattle.law_designs.specs.FlatKinds.{kind_of}
use Rattle.smv_symmetric.proofs.statements.types_of.Given as goal

abbrev pub invariant-loop-p : goal.invariant-loop-p
invariant-loop-p l = map kind_of l.types.items ++ map (λ p. kind_of p.over) (drop l.p-index l.params) ≡ map (λ p. kind_of p.over) l.params
