use Rattle.std.proofs.Common.{◌<◌, length, arith}
use Rattle.law_lists.proofs.Options.{if_ok_both}
use Rattle.law_answers.specs.Dues.{limit}
use Rattle.smv_look_run.proofs.Endings.{due_fault, is_long}
use Rattle.smv_look_run.proofs.answers.answer_to.Goals as goal

pub returns-then-text-gt-LIMIT : goal.returns-then-text-gt-LIMIT
returns-then-text-gt-LIMIT c =
    let long : limit < length c.args.text.now = grind (arith, c.if-text-gt-LIMIT.true) in
    if_ok_both c.long.result _ _ _ (λ a s b. due_fault c.args.query.now c.args.text.now 31 0 a.status a.bytes.items (is_long c.args.query.now c.args.text.now long) s (b c.args.text.now)) c.long.ensures.status c.long.ensures.bytes
