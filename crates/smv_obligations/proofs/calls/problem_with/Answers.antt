use Rattle.std.proofs.Common.{◌≡◌, List, map, ap, sym, subst, ◌∙◌}
use Rattle.std.specs.Result.{IfOk}
use Rattle.smv_core.specs.declared.flat.Class.{Class}
use Rattle.smv_core.specs.declared.flat.Param.{Param}
use Rattle.law_problems.specs.Parts.{IsCaseOf, case_with, width_fault, Refuses}
use Rattle.smv_problem.specs.Written.{written}
use Rattle.smv_problem.specs.WellFormed.{IsWellFormed}
use Rattle.smv_cases.specs.Types.{types_of}
use Rattle.smv_cone.specs.Parts.{spots_in}
use Rattle.smv_obligations.proofs.calls.problem_with.Goals as goal

pub problem_in-requires-clause-part : goal.problem_in-requires-clause-part
problem_in-requires-clause-part c = record {
  units = c.requires.units;
  is_part = c.requires.part;
  is_case = subst (IsCaseOf c.args.design.now c.args.leaf.now c.args.choice.now) (sym c.as_slice-classes.ensures) c.requires.case;
  forms = c.as_slice-forms.ensures ∙ (c.in_ok-types.ensures ∙ ap (types_of c.args.design.now.sets c.args.leaf.now.params c.args.choice.now.keeps) (sym c.as_slice-classes.ensures));
  spots = c.as_slice-spots.ensures.value ∙ (c.in_ok-params.ensures ∙ ap (λ (ps : List Param). spots_in (map (λ p. p.over) ps) c.as_slice-classes.result.now) c.as_slice-over.ensures);
  is_table = c.requires.table;
}

pub returns-clause-problem : goal.returns-clause-problem
returns-clause-problem c =
    subst (λ (cs : List Class). IfOk c.problem_in.result (λ p. p ≡ written (case_with c.args.design.now c.args.leaf.now c.args.choice.now c.args.timed.now cs))) c.as_slice-classes.ensures c.problem_in.ensures.problem

pub returns-clause-well_formed : goal.returns-clause-well_formed
returns-clause-well_formed c =
    subst (λ (cs : List Class). IfOk c.problem_in.result (λ p. IsWellFormed (case_with c.args.design.now c.args.leaf.now c.args.choice.now c.args.timed.now cs))) c.as_slice-classes.ensures c.problem_in.ensures.well_formed

pub returns-clause-refuses : goal.returns-clause-refuses
returns-clause-refuses c = subst (λ (cs : List Class). Refuses (width_fault c.args.design.now c.args.leaf.now c.args.choice.now cs) c.problem_in.result) c.as_slice-classes.ensures c.problem_in.ensures.refuses
