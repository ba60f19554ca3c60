use Rattle.std.proofs.Common.{◌≡◌, ◌++◌, [], drop}
use Rattle.smv_splits.specs.Parts.{right_names, repeated}
use Rattle.smv_splits.proofs.rights.make_rights.Given as goal

abbrev pub invariant-loop-pair : goal.invariant-loop-pair
invariant-loop-pair l = (l.out.names ++ right_names (drop l.pair-index l.pairs) ≡ right_names l.pairs) × (l.out.repeated ++ repeated l.out.names (right_names (drop l.pair-index l.pairs)) ≡ repeated [] (right_names l.pairs))
