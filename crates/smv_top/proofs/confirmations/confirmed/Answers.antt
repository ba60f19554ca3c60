use Rattle.std.proofs.Common.{◌<◌, ℕ, List, length, arith, refl, subst}
use Rattle.law_lists.proofs.Options.{if_ok_both}
use Rattle.smv_command.specs.declared.commands.Command.TheVariants.{Confirm}
use Rattle.smv_answers.specs.Dues.{IsDue, limit}
use Rattle.smv_confirm.specs.declared.Confirmed.{Confirmed}
use Rattle.smv_confirm.specs.Confirmations.{IsConfirmation, IsConfirmFault}
use Rattle.smv_top.proofs.DueLaws.{due_by_refusal, due_length}
use Rattle.smv_top.proofs.ConfirmLaws.{due_told, due_refused, in_range}
use Rattle.smv_top.proofs.confirmations.confirmed.Goals as goal

pub returns-then-text-gt-LIMIT : goal.returns-then-text-gt-LIMIT
returns-then-text-gt-LIMIT c =
    let long : limit < length c.args.text.now = grind (arith, c.if-text-gt-LIMIT.true) in
    if_ok_both c.refused.result _ _ _ (λ a s b. due_length (Confirm c.args.name.now c.args.sizes.now c.args.bits c.args.budgets) c.args.text.now a.status a.bytes.items refl long s b) c.refused.ensures.status c.refused.ensures.bytes

pub confirm-requires-clause-sizes : goal.confirm-requires-clause-sizes
confirm-requires-clause-sizes c = in_range c.args.sizes.now c.requires.sizes

pub returns-in-Ok : goal.returns-in-Ok
returns-in-Ok c =
    let is = subst (λ (name : List ℕ). IsConfirmation c.args.text.now name c.args.sizes.now c.args.bits c.args.budgets.nodes c.args.budgets.steps c.in-Ok.found) c.as_bytes-name.ensures c.in-Ok.ensures.confirmed in
    if_ok_both c.told_of.result _ _ _ (λ a s b. due_told c.args.text.now c.args.name.now c.args.sizes.now c.args.bits c.args.budgets a.status a.bytes.items c.in-Ok.found c.as_bytes-name.result.now is c.as_bytes-name.ensures s b)
    c.told_of.ensures.status c.told_of.ensures.bytes

pub returns-in-Err : goal.returns-in-Err
returns-in-Err c =
    if_ok_both c.refused_by.result _ _ _
    (λ a s b. due_by_refusal Confirmed c.args.text.now c.in-Err.refusal (IsConfirmFault c.args.text.now c.as_bytes-name.result.now c.args.sizes.now) (IsDue (Confirm c.args.name.now c.args.sizes.now c.args.bits c.args.budgets) c.args.text.now)
    (λ f bad st an e g. due_refused c.args.text.now c.args.name.now c.args.sizes.now c.args.bits c.args.budgets st an f (subst (λ (name : List ℕ). IsConfirmFault c.args.text.now name c.args.sizes.now f) c.as_bytes-name.ensures bad) e g)
    (rw c.in-Err.is at c.confirm.ensures.fault) a.status a.bytes.items s)
    c.refused_by.ensures c.refused_by.ensures
