use Rattle.std.proofs.Common.{◌∙◌, ◌≤◌, ◌<◌, Err, ap, length, arith}
use Rattle.law_lists.proofs.Options.{if_ok_both}
use Rattle.law_document_answers.specs.Dues.{resume_limit}
use Rattle.smv_top.proofs.DocumentLaws.{due_not_old, due_too_long_to_resume, no_old}
use Rattle.smv_top.proofs.documents.resumed.Goals as goal

pub returns-then-bytes-gt-RESUME_LIMIT : goal.returns-then-bytes-gt-RESUME_LIMIT
returns-then-bytes-gt-RESUME_LIMIT c =
    let long : resume_limit < length c.args.bytes.now = grind (arith, c.if-bytes-gt-RESUME_LIMIT.true) in
    if_ok_both c.refused.result _ _ _ (λ a s b. due_too_long_to_resume c.args.budgets c.args.bytes.now a.status a.bytes.items long s b) c.refused.ensures.status c.refused.ensures.bytes

pub returns-in_default : goal.returns-in_default
returns-in_default c =
    let within : length c.args.bytes.now ≤ resume_limit = grind (arith, c.if-bytes-gt-RESUME_LIMIT.false) in
    if_ok_both c.rejected_form.result _ _ _ (λ a s b. due_not_old c.args.budgets c.args.bytes.now a.status a.bytes.items within (λ old text proof is spells. c.in_default.ensures old text is) s b)
    c.rejected_form.ensures.status c.rejected_form.ensures.bytes

pub returns-in-Err-NotSpelled : goal.returns-in-Err-NotSpelled
returns-in-Err-NotSpelled c =
    let within : length c.args.bytes.now ≤ resume_limit = grind (arith, c.if-bytes-gt-RESUME_LIMIT.false) in
    let none = c.read_proof.ensures.none (c.in-Err-NotSpelled.is ∙ ap Err c.in-Err-NotSpelled.field-0-is) in
    if_ok_both c.rejected_form-in-Err-NotSpelled.result _ _ _ (λ a s b. due_not_old c.args.budgets c.args.bytes.now a.status a.bytes.items within (no_old c.args.bytes.now _ _ c.in-Some.ensures none) s b)
    c.rejected_form-in-Err-NotSpelled.ensures.status c.rejected_form-in-Err-NotSpelled.ensures.bytes
