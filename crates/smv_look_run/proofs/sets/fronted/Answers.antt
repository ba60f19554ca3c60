use Rattle.std.proofs.Common.{refl}
use Rattle.smv_look_run.specs.declared.Status.TheVariants.{Written}
use Rattle.smv_look_run.proofs.DueLaws.{due_front}
use Rattle.smv_look_run.proofs.sets.fronted.Goals as goal

pub returns : goal.returns
returns c = due_front c.args.query.now c.args.text.now c.args.plan.now c.requires.plan Written c.in_ok-bytes.bytes.items c.requires.asks refl c.in_ok-bytes.ensures
