use Rattle.std.proofs.Common.{◌∙◌, ◌++◌, ◌∷◌, [], List, ap, refl}
use Rattle.smv_problem.specs.declared.report.UnitResult.{UnitResult}
use Rattle.smv_plan_reports.proofs.prove_unit.Goals as goal

pub returns : goal.returns
returns c = λ entry at. record {
  result = c.in_ok-unit.unit;
  is_result = c.in_ok-unit.ensures entry at;
  design = refl;
  units = c.in_ok-push.ensures.ok ∙ ap (λ (before : List UnitResult). before ++ (c.in_ok-unit.unit ∷ [])) c.new-units.ensures;
}
