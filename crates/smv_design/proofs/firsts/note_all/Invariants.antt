use Rattle.std.proofs.Common.{List, ◌++◌, map, take}
use Rattle.law_designs.specs.Definitions.{Head}
use Rattle.smv_design.specs.Acts.{head_of}
use Rattle.smv_design.specs.Firsts.{IsGathered}
use Rattle.smv_design.proofs.firsts.note_all.Given as goal

abbrev pub invariant-loop-head : goal.invariant-loop-head
invariant-loop-head l = (met : List Head) → IsGathered l.initial.gathered met → IsGathered l.gathered (met ++ map head_of (take l.head-index l.heads))
