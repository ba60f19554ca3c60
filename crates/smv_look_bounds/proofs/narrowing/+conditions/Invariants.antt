use Rattle.std.proofs.Common.{◌≡◌, drop}
use Rattle.smv_look_bounds.specs.Held.{narrow_all, target_of}
use Rattle.smv_look_bounds.proofs.narrowing.+conditions.Given as goal

abbrev pub invariant-narrow_all-loop-x : goal.invariant-narrow_all-loop-x
invariant-narrow_all-loop-x l = narrow_all (target_of l.t) l.holds (drop l.x-index l.parts) l.left ≡ narrow_all (target_of l.t) l.holds l.parts l.initial.left
