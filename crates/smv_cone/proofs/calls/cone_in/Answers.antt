use Rattle.std.proofs.Common.{Some, None, map, ap, sym, subst, ◌∙◌}
use Rattle.smv_problem.specs.Written.{written_element}
use Rattle.smv_cone.specs.Searching.{IsConeOf}
use Rattle.smv_cone.proofs.Views.{part-view, part-least, cone-is, few-fault, many-fault}
use Rattle.smv_cone.proofs.calls.cone_in.Goals as goal

pub cone_of-requires-clause-view : goal.cone_of-requires-clause-view
cone_of-requires-clause-view c = part-view c.args.part.now c.requires

pub cone_of-requires-clause-least : goal.cone_of-requires-clause-least
cone_of-requires-clause-least c = part-least c.args.part.now c.requires

pub returns-in-Some-clause-elements : goal.returns-in-Some-clause-elements
returns-in-Some-clause-elements c =
    let cone : IsConeOf c.args.part.now (Some c.in-Some.elements) = subst (IsConeOf c.args.part.now) c.in-Some.is c.in_ok-cone.ensures in cone.0 ∙ ap (map written_element) (sym (cone-is c.args.part.now c.requires))

pub returns-in-Some-clause-refuses : goal.returns-in-Some-clause-refuses
returns-in-Some-clause-refuses c = let cone : IsConeOf c.args.part.now (Some c.in-Some.elements) = subst (IsConeOf c.args.part.now) c.in-Some.is c.in_ok-cone.ensures in few-fault c.args.part.now c.requires cone.1

pub returns-in-None-clause-refuses : goal.returns-in-None-clause-refuses
returns-in-None-clause-refuses c =
    let cone : IsConeOf c.args.part.now None = subst (IsConeOf c.args.part.now) c.in-None.is c.in_ok-cone.ensures in many-fault c.args.part.now c.requires cone c.fault_at_unit-fault.result c.fault_at_unit-fault.ensures
