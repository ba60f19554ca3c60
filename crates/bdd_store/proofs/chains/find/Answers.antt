use Rattle.std.proofs.Common.{◌≡◌, ◌≢◌, refl, subst, arith}
use Rattle.bdd_store.specs.Chains.{InChain, Matches}
use Rattle.bdd_store.proofs.ChainLaws.{at_start, one_more, next_ahead, none_at_end}
use Rattle.bdd_store.proofs.chains.find.Goals.{else-node-low-via-then-node-low+then-node-high+else-node-var, else-node-low-via-then-node-low+else-node-high, else-node-low-via-else-node-low}
use Rattle.bdd_store.proofs.chains.find.Goals as goal

pub loop-at-init : goal.loop-at-init
loop-at-init c = record { within = at_start _ _ _ refl; ahead = λ r pos chain wanted. chain }

pub loop-at-preserved : goal.loop-at-preserved
loop-at-preserved c =
    let ns = c.args.nodes.now in
    let at = c.loop-at.at in
    let falls = c.requires.falling at (omega arith) c.loop-at.invariant.within in
    record {
      within = one_more ns c.args.start at c.loop-at.invariant.within;
      ahead = λ r pos chain wanted.
          let ne : at ≢ r = λ (e : at ≡ r).
          let wanted_at : Matches ns at c.args.var c.args.low c.args.high = subst (λ p. Matches ns p c.args.var c.args.low c.args.high) {x = r} {y = at} (cc) wanted in
          elim c.else-node-low.branch [
            | else-node-low-via-then-node-low+then-node-high+else-node-var w ↦ w.if-node-var.false wanted_at.0
            | else-node-low-via-then-node-low+else-node-high w ↦ w.if-node-high.false wanted_at.2
            | else-node-low-via-else-node-low w ↦ w.if-node-low.false wanted_at.1
          ] in
          next_ahead ns at r (c.loop-at.invariant.ahead r pos chain wanted) ne;
    }

pub returns-clause-absent : goal.returns-clause-absent
returns-clause-absent c e r pos chain wanted =
    let ends = c.loop-at.invariant.ahead r pos chain wanted in
    let at_end : c.loop-at.at ≡ 0 = omega arith in
    none_at_end c.args.nodes.now r c.requires.ends (subst (λ p. InChain c.args.nodes.now p r) at_end ends) pos

pub bounds-nodes-at : goal.bounds-nodes-at
bounds-nodes-at c = (c.requires.falling c.loop-at.at (omega arith) c.loop-at.invariant.within).0
