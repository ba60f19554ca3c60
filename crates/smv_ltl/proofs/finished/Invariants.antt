use Rattle.std.proofs.Common.{◌≡◌, ◌++◌, drop, map}
use Rattle.smv_ltl.proofs.finished.Given as goal

abbrev pub invariant-loop-entry : goal.invariant-loop-entry
invariant-loop-entry l = record {
  text : l.text ++ map (λ b. b.0) (drop l.entry-index l.out) ≡ map (λ b. b.0) l.out;
  places : l.map ++ map (λ b. b.1) (drop l.entry-index l.out) ≡ map (λ b. b.1) l.out;
}
