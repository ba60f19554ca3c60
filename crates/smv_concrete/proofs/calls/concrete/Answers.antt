use Rattle.std.proofs.Common.{List, map, sym, ap, subst, ◌∙◌}
use Rattle.std.specs.Result.{IfOk}
use Rattle.smv_core.specs.declared.flat.Class.{Class}
use Rattle.smv_core.specs.declared.flat.Param.{Param}
use Rattle.law_obligations.specs.Sets.{Has}
use Rattle.law_problems.specs.Parts.{Refuses}
use Rattle.law_concrete.specs.Sizes.{case_fault}
use Rattle.smv_problem.specs.WellFormed.{IsProblemOf}
use Rattle.smv_cone.specs.Parts.{spots_in}
use Rattle.smv_concrete.specs.Subjects.{case_in, cases_in, unit_of}
use Rattle.smv_concrete.proofs.calls.concrete.Goals as goal

pub problem_of-requires-clause-part : goal.problem_of-requires-clause-part
problem_of-requires-clause-part c = record {
  units = c.requires.subject.units;
  params = c.requires.subject.params;
  guards = c.requires.subject.guards;
  choice = c.requires.subject.choice;
  types = c.requires.subject.types;
  spots = c.as_slice-spots.ensures.value ∙ (c.in_ok-params.ensures ∙ ap (λ (ps : List Param). spots_in (map (λ p. p.over) ps) c.as_slice-classes.result.now) c.as_slice-over.ensures);
  is_case = subst (Has (cases_in c.args.subject.now)) (sym c.as_slice-classes.ensures) c.requires.case;
  table = c.requires.subject.table;
}

pub returns-clause-problem : goal.returns-clause-problem
returns-clause-problem c = subst (λ (cs : List Class). IfOk c.problem_of.result (λ p. IsProblemOf (case_in c.args.subject.now cs) p)) c.as_slice-classes.ensures c.problem_of.ensures.problem

pub returns-clause-refuses : goal.returns-clause-refuses
returns-clause-refuses c = subst (λ (cs : List Class). Refuses (case_fault c.args.subject.now.design.now (unit_of c.args.subject.now) c.args.subject.now.sizes.now cs) c.problem_of.result) c.as_slice-classes.ensures c.problem_of.ensures.refuses
