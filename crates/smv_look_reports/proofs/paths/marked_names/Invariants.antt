use Rattle.std.specs.Prelude.{◌≡◌, ◌++◌, drop, map, option_copied}
use Rattle.smv_look_reports.specs.Paths.{marked_name}
use Rattle.smv_look_reports.proofs.paths.marked_names.Given as goal

abbrev pub invariant-loop-x : goal.invariant-loop-x
invariant-loop-x l = l.names ++ map (marked_name l.design (option_copied l.target)) (drop l.x-index l.elements) ≡ map (marked_name l.design (option_copied l.target)) l.elements
