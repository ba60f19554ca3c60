use Rattle.std.proofs.Common.{Some, None, ap, sym, subst, ◌∙◌}
use Rattle.law_concrete.specs.Sizes.{sizes_at}
use Rattle.smv_cone.specs.Parts.{entry_of}
use Rattle.smv_cone.specs.Searching.{IsConeOf}
use Rattle.smv_obligations.specs.Shared.{IsShared, shared_in}
use Rattle.smv_concrete.proofs.Views.{few-bits, few-fault, many-fault, part-least, part-view}
use Rattle.smv_concrete.proofs.Problems.{problem-is}
use Rattle.smv_concrete.proofs.calls.problem_of.Goals as goal

pub cone_of-requires-clause-view : goal.cone_of-requires-clause-view
cone_of-requires-clause-view c = part-view c.args.sizes.now c.args.part.now c.requires.sized c.requires.part

pub cone_of-requires-clause-least : goal.cone_of-requires-clause-least
cone_of-requires-clause-least c = part-least c.args.sizes.now c.args.part.now c.requires.sized c.requires.part

pub assembled-requires : goal.assembled-requires
assembled-requires c = part-view c.args.sizes.now c.args.part.now c.requires.sized c.requires.part

pub fault_at_unit-fault-requires : goal.fault_at_unit-fault-requires
fault_at_unit-fault-requires c = c.requires.part.units

pub returns-in_ok-problem-in-Some-clause-problem : goal.returns-in_ok-problem-in-Some-clause-problem
returns-in_ok-problem-in-Some-clause-problem c =
    let cone : IsConeOf c.args.part.now (Some c.in-Some.elements) = subst (IsConeOf c.args.part.now) c.in-Some.is c.in_ok-cone.ensures in (
      c.in_ok-problem-in-Some.ensures ∙ problem-is c.args.sizes.now c.args.part.now c.requires.sized c.requires.part c.args.timed.now c.args.shared c.in-Some.elements c.requires.timed c.requires.shared cone.0,
      c.concrete_problems_are_well_formed.ensures c.args.part.now.view.design.now (sizes_at c.args.part.now.view.design.now.sets c.args.sizes.now) c.requires.sized.is_exact c.requires.sized.is_fit c.requires.sized.are_apart c.requires.sized.are_few
          (entry_of c.args.part.now).unit c.args.part.now.classes.now c.requires.part.is_case (few-bits c.args.sizes.now c.args.part.now c.requires.sized c.requires.part cone.1),
    )

pub returns-in_ok-problem-in-Some-clause-shared : goal.returns-in_ok-problem-in-Some-clause-shared
returns-in_ok-problem-in-Some-clause-shared c = subst (IsShared c.args.part.now.view.design.now) (sym (ap shared_in c.in_ok-problem-in-Some.ensures)) c.requires.shared

pub returns-in_ok-problem-in-Some-clause-refuses : goal.returns-in_ok-problem-in-Some-clause-refuses
returns-in_ok-problem-in-Some-clause-refuses c = let cone : IsConeOf c.args.part.now (Some c.in-Some.elements) = subst (IsConeOf c.args.part.now) c.in-Some.is c.in_ok-cone.ensures in few-fault c.args.sizes.now c.args.part.now c.requires.sized c.requires.part cone.1

pub returns-in-None-clause-refuses : goal.returns-in-None-clause-refuses
returns-in-None-clause-refuses c =
    let cone : IsConeOf c.args.part.now None = subst (IsConeOf c.args.part.now) c.in-None.is c.in_ok-cone.ensures in
    many-fault c.args.sizes.now c.args.part.now c.requires.sized c.requires.part cone c.fault_at_unit-fault.result c.fault_at_unit-fault.ensures
