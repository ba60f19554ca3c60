use Rattle.std.proofs.Common.{◌≡◌, ◌++◌, ◌∷◌, drop}
use Rattle.std.specs.List.{flat_map}
use Rattle.law_designs.specs.Flattening.{dot}
use Rattle.smv_flatten_families.proofs.dots.dotted.Given as goal

abbrev pub invariant-loop-name : goal.invariant-loop-name
invariant-loop-name l = l.bytes.items ++ flat_map (λ name. dot ∷ name.now) (drop l.name-index l.more) ≡ l.initial.bytes.items ++ flat_map (λ name. dot ∷ name.now) l.more
