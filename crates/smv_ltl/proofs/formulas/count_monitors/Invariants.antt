use Rattle.std.proofs.Common.{◌≡◌, ◌≤◌, ◌+◌, ◌^◌, drop}
use Rattle.law_formulas.specs.Monitors.{monitors_of}
use Rattle.smv_parse_formulas.specs.Trees.{meanings}
use Rattle.smv_ltl.proofs.formulas.count_monitors.Given as goal

abbrev pub invariant-loop-placed : goal.invariant-loop-placed
invariant-loop-placed l = record {
  within : l.count ≤ 2 ^ 32;
  left : l.count + monitors_of (meanings (drop l.placed-index l.formulas)) ≡ monitors_of (meanings l.formulas);
}
