use Rattle.std.specs.Prelude.{◌≡◌, ◌++◌, drop, fold, map}
use Rattle.smv_waveforms.specs.Values.{kinds_with}
use Rattle.smv_waveforms.specs.declared.values.Kind.TheVariants.{Bits}
use Rattle.smv_waveforms.proofs.values.kinds_of.Given as goal

abbrev pub invariant-loop-element : goal.invariant-loop-element
invariant-loop-element l = l.kinds.items ++ map (λ _. Bits 1) (drop l._element-index l.unit.elements) ≡ map (λ _. Bits 1) l.unit.elements

abbrev pub invariant-loop-state : goal.invariant-loop-state
invariant-loop-state l = fold kinds_with l.kinds.items (drop l.state-index l.unit.states) ≡ fold kinds_with l.initial.kinds.items l.unit.states
