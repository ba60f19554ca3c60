use Rattle.std.proofs.Common.{◌≡◌, drop, find, nat_eq}
use Rattle.smv_chosen.proofs.pick_of.Given as goal

abbrev pub invariant-loop-pick : goal.invariant-loop-pick
invariant-loop-pick l = find (λ p. nat_eq p.family l.family) (drop l.pick-index l.picks) ≡ find (λ p. nat_eq p.family l.family) l.picks
