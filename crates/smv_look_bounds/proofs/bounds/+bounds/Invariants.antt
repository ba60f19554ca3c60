use Rattle.std.proofs.Common.{◌≡◌, drop, map}
use Rattle.smv_look_bounds.specs.Held.{bounds_all, given_of}
use Rattle.smv_look_bounds.proofs.bounds.+bounds.Given as goal

abbrev pub invariant-sum_bounds-loop-signed : goal.invariant-sum_bounds-loop-signed
invariant-sum_bounds-loop-signed l = bounds_all l.families l.vars (map given_of l.givens) l.total (drop l.signed-index l.more) ≡ bounds_all l.families l.vars (map given_of l.givens) l.initial.total l.more
