use Rattle.smv_meets.proofs.BitFunctions.{AreUpTo}
use Rattle.smv_meets.proofs.bits.bits_at.Given as goal

abbrev pub invariant-loop-place : goal.invariant-loop-place
invariant-loop-place l = AreUpTo l.initial.store l.store l.places l.place-index l.bits.items
