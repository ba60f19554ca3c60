use Rattle.std.proofs.Common.{Some, None, true≢false}
use Rattle.smv_command.specs.declared.commands.Command.TheVariants.{Prove, Only, Print, Generated, Proof, Check, Resume, Confirm, Induct, Ltl}
use Rattle.law_answers.specs.Laws.{UnreadIsDue}
use Rattle.law_answers.proofs.laws.unread_is_due.Goals as goal

pub returns : goal.returns
returns c = unread
  where
    unread : UnreadIsDue
    unread None text other due answer nothing is = is
    unread (Some (Prove bits budgets)) text other due answer nothing is = absurd (true≢false nothing)
    unread (Some (Only name bits budgets)) text other due answer nothing is = absurd (true≢false nothing)
    unread (Some Print) text other due answer nothing is = absurd (true≢false nothing)
    unread (Some (Generated copies)) text other due answer nothing is = is
    unread (Some (Proof budgets)) text other due answer nothing is = absurd (true≢false nothing)
    unread (Some Check) text other due answer nothing is = absurd (true≢false nothing)
    unread (Some (Resume budgets)) text other due answer nothing is = absurd (true≢false nothing)
    unread (Some (Confirm name sizes bits budgets)) text other due answer nothing is = absurd (true≢false nothing)
    unread (Some (Induct name var budgets)) text other due answer nothing is = absurd (true≢false nothing)
    unread (Some (Ltl bits budgets)) text other due answer nothing is = absurd (true≢false nothing)
