use Rattle.std.proofs.Common.{◌≡◌, ◌++◌, map, drop}
use Rattle.law_formulas.specs.Monitors.{watched}
use Rattle.smv_parse_formulas.specs.Trees.{meanings}
use Rattle.smv_ltl.specs.Plans.{entry_of}
use Rattle.smv_ltl.proofs.plan.entries_of.Given as goal

abbrev pub invariant-loop-placed : goal.invariant-loop-placed
invariant-loop-placed l = map entry_of l.entries.items ++ watched (meanings (drop l.placed-index l.formulas)) l.left ≡ watched (meanings l.formulas) l.names
