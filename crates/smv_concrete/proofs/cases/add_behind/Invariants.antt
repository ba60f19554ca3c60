use Rattle.std.proofs.Common.{◌≡◌, ◌∷◌, ◌++◌, map, drop}
use Rattle.smv_cases.specs.Slots.{classes_of}
use Rattle.smv_concrete.proofs.cases.add_behind.Given as goal

abbrev pub invariant-loop-case : goal.invariant-loop-case
invariant-loop-case l = classes_of l.out.items ++ map (λ classes. l.class ∷ classes) (classes_of (drop l.case-index l.behind)) ≡ classes_of l.initial.out.items ++ map (λ classes. l.class ∷ classes) (classes_of l.behind)
