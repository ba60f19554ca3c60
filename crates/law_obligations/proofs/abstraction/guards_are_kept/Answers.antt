use Rattle.law_obligations.proofs.GuardsKeep.{guard_met, guard_kept}
use Rattle.law_obligations.proofs.GuardsChosen.{guards_met}
use Rattle.law_obligations.proofs.abstraction.guards_are_kept.Goals as goal

pub returns-clause-cover : goal.returns-clause-cover
returns-clause-cover c n s over e b v h = guard_met n s over e b v h

pub returns-clause-kept : goal.returns-clause-kept
returns-clause-kept c n types spots facts s is_state kept a picture over e b h i k g = guard_kept n types spots facts s is_state kept a picture over e b h i k g

pub returns-clause-leaves : goal.returns-clause-leaves
returns-clause-leaves c n own added guards are filled s values h = guards_met n own added guards are filled s values h
