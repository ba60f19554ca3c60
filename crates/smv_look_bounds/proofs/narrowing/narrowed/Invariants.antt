use Rattle.std.proofs.Common.{◌≡◌, drop, map}
use Rattle.smv_look_bounds.specs.Held.{given_of, target_of}
use Rattle.smv_look_bounds.specs.Narrowing.{narrowed}
use Rattle.smv_look_bounds.proofs.narrowing.narrowed.Given as goal

abbrev pub invariant-loop-given : goal.invariant-loop-given
invariant-loop-given l = narrowed (map given_of (drop l.given-index l.givens)) (target_of l.t) l.left ≡ narrowed (map given_of l.givens) (target_of l.t) l.initial.left
