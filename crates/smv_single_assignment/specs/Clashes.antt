-- When two assignments clash.
use Rattle.std.specs.Prelude.{Bool, ◌&&◌}
use Rattle.smv_core.specs.Walk.{same_kind}
use Rattle.smv_core.specs.declared.tree.Kind.{Kind}
use Rattle.law_designs.specs.Standing.{Standing}
use Rattle.law_designs.specs.SingleFaults.{meet, cross, are_mixed}
use Rattle.smv_single_assignment.specs.declared.clashes.Clash.{Clash}
use Rattle.smv_single_assignment.specs.declared.clashes.Clash.TheVariants.{Meet, Cross, Mixed}

abbrev pub clash_by : Clash → Standing → Standing → Bool
clash_by Meet a b = meet a b
clash_by (Cross around) a b = cross around.now a b
clash_by Mixed a b = are_mixed a b

-- an earlier assignment of a kind clashes with a later one
abbrev pub clashes_of : Kind → Clash → Standing → Standing → Bool
clashes_of kind clash b a = same_kind a.kind kind && clash_by clash a b
