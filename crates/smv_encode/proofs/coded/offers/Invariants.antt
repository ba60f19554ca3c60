use Rattle.std.proofs.Common.{◌≡◌, ◌++◌, drop}
use Rattle.smv_encode.specs.Coded.{paired}
use Rattle.smv_encode.proofs.coded.offers.Given as goal

abbrev pub invariant-loop-i : goal.invariant-loop-i
invariant-loop-i l = l.offers ++ paired (drop l.i l.spots) (drop l.i l.conditions) ≡ paired l.spots l.conditions
