use Rattle.std.proofs.Common.{◌∙◌, ◌≤◌, ◌<◌, length, arith, refl, ap, Err}
use Rattle.law_lists.proofs.Options.{if_ok_both}
use Rattle.law_judgements.specs.Judgements.{not_spelled}
use Rattle.law_judgements.specs.Judgements.Judgement.{form}
use Rattle.law_document_answers.specs.Dues.{check_limit}
use Rattle.smv_top.proofs.DocumentLaws.{due_judged, due_too_long_to_check}
use Rattle.smv_top.proofs.documents.checked.Goals as goal

pub returns-then-bytes-gt-CHECK_LIMIT : goal.returns-then-bytes-gt-CHECK_LIMIT
returns-then-bytes-gt-CHECK_LIMIT c =
    let long : check_limit < length c.args.bytes.now = grind (arith, c.if-bytes-gt-CHECK_LIMIT.true) in
    if_ok_both c.refused.result _ _ _ (λ a s b. due_too_long_to_check c.args.bytes.now a.status a.bytes.items long s b) c.refused.ensures.status c.refused.ensures.bytes

pub returns-in-Err-NotSpelled : goal.returns-in-Err-NotSpelled
returns-in-Err-NotSpelled c =
    let within : length c.args.bytes.now ≤ check_limit = grind (arith, c.if-bytes-gt-CHECK_LIMIT.false) in
    let none = c.read_proof.ensures.none (c.in-Err-NotSpelled.is ∙ ap Err c.in-Err-NotSpelled.field-0-is) in
    if_ok_both c.rejected_form.result _ _ _ (λ a s b. due_judged c.args.bytes.now a.status a.bytes.items form within (not_spelled none) refl s b) c.rejected_form.ensures.status c.rejected_form.ensures.bytes
