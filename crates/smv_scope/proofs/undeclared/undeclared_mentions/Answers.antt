use Rattle.smv_mentions.specs.Said.{said}
use Rattle.smv_mentions.specs.NameFaults.{undeclared}
use Rattle.smv_scope.specs.Numbered.{scope_at}
use Rattle.smv_first_fault.proofs.LeastLaws.{least-step}
use Rattle.smv_scope.proofs.undeclared.undeclared_mentions.Goals as goal

pub loop-mention-preserved : goal.loop-mention-preserved
loop-mention-preserved c =
    least-step (λ mention. undeclared (scope_at c.args.tables.now.text.now c.args.place) c.args.formals.now.words.now (said mention)) c.args.mentions.now c.loop-mention.mention-index c.mention-item.result
    c.loop-mention.first c.in_ok-at.at c.first_of-first.result _ c.loop-mention-test.true c.mention-item.is c.in_ok-at.ensures c.first_of-first.ensures c.loop-mention.invariant
