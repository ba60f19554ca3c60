use Rattle.std.proofs.Common.{◌≤◌, ◌<◌, length, arith, refl}
use Rattle.law_lists.proofs.Options.{if_ok_both}
use Rattle.smv_command.specs.declared.commands.Command.TheVariants.{Print}
use Rattle.smv_answers.specs.Dues.{limit}
use Rattle.smv_core.specs.declared.tree.Text.{Text}
use Rattle.smv_parse.specs.Spelling.{HasFault}
use Rattle.smv_top.proofs.DueLaws.{due_tree, due_form, due_length, fault_of}
use Rattle.smv_top.proofs.answers.spelled.Goals as goal

pub returns-then-text-gt-LIMIT : goal.returns-then-text-gt-LIMIT
returns-then-text-gt-LIMIT c =
    let long : limit < length c.args.text.now = grind (arith, c.if-text-gt-LIMIT.true) in
    if_ok_both c.refused.result _ _ _ (λ a s b. due_length Print c.args.text.now a.status a.bytes.items refl long s b) c.refused.ensures.status c.refused.ensures.bytes

pub returns-in-Ok : goal.returns-in-Ok
returns-in-Ok c =
    let within : length c.args.text.now ≤ limit = grind (arith, c.if-text-gt-LIMIT.false) in
    if_ok_both c.printed.result _ _ _ (λ a s b. due_tree c.args.text.now c.in-Ok.tree a.status a.bytes.items within c.in-Ok.ensures.tree s b) c.printed.ensures.status c.printed.ensures.bytes

pub returns-in-Err-Fault : goal.returns-in-Err-Fault
returns-in-Err-Fault c =
    let within : length c.args.text.now ≤ limit = grind (arith, c.if-text-gt-LIMIT.false) in
    let bad = fault_of Text _ c.in-Err-Fault.fault (λ f. HasFault c.args.text.now f.number f.at) c.in-Err-Fault.field-0-is (rw c.in-Err-Fault.is at c.parse.ensures.fault) in
    if_ok_both c.refused-in-Err-Fault.result _ _ _ (λ a s b. due_form c.args.text.now c.in-Err-Fault.fault.number c.in-Err-Fault.fault.at a.status a.bytes.items within bad s b) c.refused-in-Err-Fault.ensures.status c.refused-in-Err-Fault.ensures.bytes
