use Rattle.std.proofs.Common.{refl}
use Rattle.smv_look_run.specs.declared.Status.TheVariants.{Written}
use Rattle.smv_look_run.proofs.DueLaws.{due_list}
use Rattle.smv_look_run.proofs.PlanLaws.{all_timed_long, few_cases}
use Rattle.smv_look_run.proofs.answers.listed.Goals as goal

pub list_lines-requires-clause-few : goal.list_lines-requires-clause-few
list_lines-requires-clause-few c = few_cases c.args.plan.now c.requires.whole

pub list_lines-requires-clause-timed : goal.list_lines-requires-clause-timed
list_lines-requires-clause-timed c = all_timed_long c.args.plan.now c.requires.whole

pub returns : goal.returns
returns c = due_list c.args.query.now c.args.text.now c.args.plan.now c.requires.plan Written c.in_ok-bytes.bytes.items c.requires.asks refl c.in_ok-bytes.ensures
