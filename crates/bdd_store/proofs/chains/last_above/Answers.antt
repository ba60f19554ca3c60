use Rattle.std.proofs.Common.{◌≢◌, refl, subst, arith}
use Rattle.bdd_store.specs.Graph.{next_at}
use Rattle.bdd_store.specs.Chains.{InChain}
use Rattle.bdd_store.proofs.ChainLaws.{at_start, one_more}
use Rattle.bdd_store.proofs.chains.last_above.Goals as goal

pub loop-at-init : goal.loop-at-init
loop-at-init c = record { within = at_start c.args.nodes.now c.args.start c.args.start refl; above = c.requires.above }

pub bounds-nodes-at : goal.bounds-nodes-at
bounds-nodes-at c = (c.requires.falling c.loop-at.at (omega (arith, c.loop-at.invariant.above)) c.loop-at.invariant.within).0

pub loop-at-preserved : goal.loop-at-preserved
loop-at-preserved c = record { within = one_more c.args.nodes.now c.args.start c.loop-at.at c.loop-at.invariant.within; above = c.loop-at-test.true }

pub returns-clause-next : goal.returns-clause-next
returns-clause-next c =
    let ne : next_at c.args.nodes.now c.loop-at.at ≢ c.args.place = λ e. c.requires.apart (subst (λ q. InChain c.args.nodes.now c.args.start q) e (one_more c.args.nodes.now c.args.start c.loop-at.at c.loop-at.invariant.within)) in
    omega (arith, c.loop-at-test.false)
