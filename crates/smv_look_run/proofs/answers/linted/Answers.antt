use Rattle.std.proofs.Common.{◌∙◌, ap}
use Rattle.smv_look_run.specs.Dues.{lint_status}
use Rattle.smv_look_run.proofs.DueLaws.{due_lint}
use Rattle.smv_look_run.proofs.answers.linted.Goals as goal

pub returns-in_ok-bytes-in-Ok : goal.returns-in_ok-bytes-in-Ok
returns-in_ok-bytes-in-Ok c =
    due_lint c.args.query.now c.args.text.now c.args.plan.now c.requires.plan c.in-Ok.tree _ c.in_ok-bytes-in-Ok.bytes.items c.in-Ok.ensures.tree c.requires.asks (c.lint_status-status.ensures ∙ ap lint_status c.as_slice.ensures.value) c.in_ok-bytes-in-Ok.ensures
