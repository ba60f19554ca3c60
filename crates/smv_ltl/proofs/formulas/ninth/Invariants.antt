use Rattle.std.proofs.Common.{◌≡◌, ◌≤◌, ◌-◌, drop}
use Rattle.std.specs.Prelude.{slice_get}
use Rattle.law_formulas.specs.Ninths.{after_eight, nexts}
use Rattle.smv_parse_formulas.specs.Trees.{behind, innermost, meant}
use Rattle.smv_ltl.proofs.formulas.ninth.Given as goal

abbrev pub invariant-loop-step : goal.invariant-loop-step
invariant-loop-step l = record {
  within : l.count ≤ 8;
  left : slice_get (nexts (behind (drop l.step-index l.formula.steps) (innermost l.formula.end))) (8 - l.count) ≡ after_eight (nexts (meant l.formula));
}
