use Rattle.std.proofs.Common.{◌≡◌, List, map, nat_lt, sym, ap, subst, ◌∙◌}
use Rattle.std.specs.Result.{IfOk}
use Rattle.smv_core.specs.declared.flat.Class.{Class}
use Rattle.smv_core.specs.declared.flat.Param.{Param}
use Rattle.law_obligations.specs.Sets.{Has}
use Rattle.law_concrete.specs.Sizes.{case_bits}
use Rattle.smv_cone.specs.Parts.{spots_in}
use Rattle.smv_concrete.specs.Subjects.{cases_in, unit_of}
use Rattle.smv_concrete.proofs.calls.is_wide.Goals as goal

pub is_wide_part-requires-clause-part : goal.is_wide_part-requires-clause-part
is_wide_part-requires-clause-part c = record {
  units = c.requires.subject.units;
  params = c.requires.subject.params;
  guards = c.requires.subject.guards;
  choice = c.requires.subject.choice;
  types = c.requires.subject.types;
  spots = c.as_slice-spots.ensures.value ∙ (c.in_ok-params.ensures ∙ ap (λ (ps : List Param). spots_in (map (λ p. p.over) ps) c.as_slice-classes.result.now) c.as_slice-over.ensures);
  is_case = subst (Has (cases_in c.args.subject.now)) (sym c.as_slice-classes.ensures) c.requires.case;
  table = c.requires.subject.table;
}

pub returns : goal.returns
returns c = subst (λ (cs : List Class). IfOk c.is_wide_part.result (λ wide. wide ≡ nat_lt 1024 (case_bits c.args.subject.now.design.now (unit_of c.args.subject.now) c.args.subject.now.sizes.now cs))) c.as_slice-classes.ensures c.is_wide_part.ensures
