use Rattle.std.proofs.Common.{map, ap, sym, subst, ◌∙◌}
use Rattle.smv_cone.proofs.Views.{part-view, cone-is}
use Rattle.smv_problem.specs.Written.{written_element}
use Rattle.smv_obligations.specs.Shared.{IsShared, shared_in}
use Rattle.smv_obligations.proofs.ProblemLaws.{problem-is, well-formed}
use Rattle.smv_obligations.proofs.calls.problem_in.Goals as goal

pub assembled-requires : goal.assembled-requires
assembled-requires c = part-view c.args.part.now c.requires.part

pub returns-clause-problem : goal.returns-clause-problem
returns-clause-problem c =
    c.in_ok-problem.ensures ∙ problem-is c.args.part.now c.requires.part c.args.timed.now c.args.shared c.in_ok-elements.elements c.requires.shared (c.in_ok-elements.ensures.elements ∙ ap (map written_element) (cone-is c.args.part.now c.requires.part))

pub returns-clause-well_formed : goal.returns-clause-well_formed
returns-clause-well_formed c = well-formed c.args.part.now c.requires.part c.args.timed.now c.in_ok-elements.ensures.refuses

pub returns-clause-shared : goal.returns-clause-shared
returns-clause-shared c = subst (IsShared c.args.part.now.view.design.now) (sym (ap shared_in c.in_ok-problem.ensures)) c.requires.shared
