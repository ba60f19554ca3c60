use Rattle.std.proofs.Common.{◌≡◌, List, map, ap, sym, subst, ◌∙◌}
use Rattle.std.specs.Result.{IfOk}
use Rattle.smv_core.specs.declared.flat.Class.{Class}
use Rattle.smv_core.specs.declared.flat.Param.{Param}
use Rattle.law_problems.specs.Parts.{IsCaseOf, cone_with, width_fault, Refuses}
use Rattle.smv_problem.specs.Written.{written_element}
use Rattle.smv_cases.specs.Types.{types_of}
use Rattle.smv_cone.specs.Parts.{spots_in}
use Rattle.smv_cone.proofs.calls.cone.Goals as goal

pub cone_in-requires : goal.cone_in-requires
cone_in-requires c = record {
  units = c.requires.units;
  is_part = c.requires.part;
  is_case = subst (IsCaseOf c.args.design.now c.args.leaf.now c.args.choice.now) (sym c.as_slice-classes.ensures) c.requires.case;
  forms = c.as_slice-forms.ensures ∙ (c.in_ok-types.ensures ∙ ap (types_of c.args.design.now.sets c.args.leaf.now.params c.args.choice.now.keeps) (sym c.as_slice-classes.ensures));
  spots = c.as_slice-spots.ensures.value ∙ (c.in_ok-params.ensures ∙ ap (λ (ps : List Param). spots_in (map (λ p. p.over) ps) c.as_slice-classes.result.now) c.as_slice-over.ensures);
  is_table = c.requires.table;
}

pub returns-clause-elements : goal.returns-clause-elements
returns-clause-elements c = subst (λ (cs : List Class). IfOk c.cone_in.result (λ es. es ≡ map written_element (cone_with c.args.design.now c.args.leaf.now c.args.choice.now cs))) c.as_slice-classes.ensures c.cone_in.ensures.elements

pub returns-clause-refuses : goal.returns-clause-refuses
returns-clause-refuses c = subst (λ (cs : List Class). Refuses (width_fault c.args.design.now c.args.leaf.now c.args.choice.now cs) c.cone_in.result) c.as_slice-classes.ensures c.cone_in.ensures.refuses
