use Rattle.smv_decide.specs.Tasks.{case_in}
use Rattle.smv_look_aiger.proofs.tasks.file.Goals as goal

pub circuit_of-requires : goal.circuit_of-requires
circuit_of-requires c = (_, c.in_ok-problem.ensures.problem.0, c.in_ok-problem.ensures.problem.1)

pub push_codes-requires : goal.push_codes-requires
push_codes-requires c = (_, c.in_ok-problem.ensures.problem.0, c.in_ok-problem.ensures.problem.1)

pub returns : goal.returns
returns c = (c.in_ok-bytes.bytes.items, c.in_ok-bytes.ensures (case_in c.args.task.now c.args.case.now.classes) c.in_ok-problem.ensures.problem.0 c.in_ok-problem.ensures.problem.1, c.in_ok-push_codes.ensures)
