use Rattle.std.proofs.Common.{refl, sym, subst, ◌∙◌, arith}
use Rattle.bdd_store.specs.Diagram.{IsReduced}
use Rattle.bdd_store.proofs.Laws.{zero_constant, one_constant, proper_iff}
use Rattle.bdd_store.proofs.Store.constant.Goals as goal

pub returns-then-value-clause-live : goal.returns-then-value-clause-live
unfolding IsReduced
returns-then-value-clause-live c = (one_constant c.args.self.now (subst IsReduced c.self.view_is c.self.invariant.reduced) _ refl).0

pub returns-then-value-clause-constant : goal.returns-then-value-clause-constant
unfolding IsReduced
returns-then-value-clause-constant c a = (one_constant c.args.self.now (subst IsReduced c.self.view_is c.self.invariant.reduced) _ refl).1 a ∙ sym c.if-value.true

pub returns-else-value-clause-live : goal.returns-else-value-clause-live
unfolding IsReduced
returns-else-value-clause-live c = (zero_constant c.args.self.now (subst IsReduced c.self.view_is c.self.invariant.reduced) _ refl).0

pub returns-else-value-clause-constant : goal.returns-else-value-clause-constant
unfolding IsReduced
returns-else-value-clause-constant c a = (zero_constant c.args.self.now (subst IsReduced c.self.view_is c.self.invariant.reduced) _ refl).1 a ∙ sym c.if-value.false

pub returns-then-value-clause-first : goal.returns-then-value-clause-first
unfolding IsReduced
returns-then-value-clause-first c = (proper_iff c.args.self.now (subst IsReduced c.self.view_is c.self.invariant.reduced) _ (returns-then-value-clause-live c)).past (omega arith)

pub returns-else-value-clause-first : goal.returns-else-value-clause-first
unfolding IsReduced
returns-else-value-clause-first c = (proper_iff c.args.self.now (subst IsReduced c.self.view_is c.self.invariant.reduced) _ (returns-else-value-clause-live c)).past (omega arith)
