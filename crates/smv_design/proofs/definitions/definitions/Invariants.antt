use Rattle.std.proofs.Common.{◌≡◌, ◌++◌, map, drop}
use Rattle.smv_design.specs.Acts.{head_of, statement_of}
use Rattle.smv_design.specs.Definitions.{def_among, AreApart, AreSaid}
use Rattle.smv_design.proofs.definitions.definitions.Given as goal

abbrev pub invariant-loop-head : goal.invariant-loop-head
invariant-loop-head l =
    (l.defs.items ++ map (def_among (map statement_of l.acts)) (map head_of (drop l.head-index l.heads)) ≡ map (def_among (map statement_of l.acts)) (map head_of l.heads))
    × AreSaid l.said (map statement_of l.acts) (drop l.head-index l.heads) × AreApart (drop l.head-index l.heads)
