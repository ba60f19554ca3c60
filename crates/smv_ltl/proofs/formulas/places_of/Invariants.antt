use Rattle.std.proofs.Common.{◌≡◌, ◌≤◌, ◌+◌, drop}
use Rattle.law_formulas.specs.Steps.{places_of}
use Rattle.smv_parse_formulas.specs.Trees.{behind, innermost}
use Rattle.smv_ltl.proofs.formulas.places_of.Given as goal

abbrev pub invariant-loop-step : goal.invariant-loop-step
invariant-loop-step l = record {
  within : l.count ≤ l.step-index;
  left : l.count + places_of (behind (drop l.step-index l.formula.steps) (innermost l.formula.end)) ≡ places_of (behind l.formula.steps (innermost l.formula.end));
}
