use Rattle.std.proofs.Common.{sym, ◌∙◌, ap, subst, arith}
use Rattle.bdd_store.specs.Diagram.{IsReduced, held}
use Rattle.bdd_store.proofs.NodeLaws.{held_is}
use Rattle.bdd_store.proofs.HeldLaws.{beads_most}
use Rattle.bdd_store.specs.contracts.Store.{the_view}
use Rattle.bdd_store.proofs.Store.held.Goals as goal

pub returns-clause-held : goal.returns-clause-held
returns-clause-held c = c.self.invariant.held_counted ∙ sym (held_is (the_view c.self.inside)) ∙ ap held c.self.view_is

pub returns-clause-most : goal.returns-clause-most
unfolding IsReduced
returns-clause-most c rs live = omega (arith, returns-clause-held c, beads_most c.args.self.now (subst IsReduced c.self.view_is c.self.invariant.reduced) rs live)
