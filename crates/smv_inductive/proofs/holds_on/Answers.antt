use Rattle.std.proofs.Common.{◌∙◌, List, ap, subst}
use Rattle.bdd_store.specs.Diagram.{table}
use Rattle.smv_rings.specs.declared.ops.Op.{Op}
use Rattle.smv_rings.specs.Lists.{refs_of}
use Rattle.smv_rings.specs.Ops.{IsOneOf, acts_of, refs_in_all}
use Rattle.smv_rings.proofs.Refs.{each_live}
use Rattle.smv_inductive.proofs.Kept.{step_fits, step_half, iff_trans, iff_then}
use Rattle.smv_inductive.proofs.holds_on.Goals as goal

pub stays_within-requires-clause-refs : goal.stays_within-requires-clause-refs
stays_within-requires-clause-refs c r one =
    each_live c.args.store.now (refs_of c.in_ok-ordered.ordered) c.in_ok-ordered.ensures.rel.live r (c.in_ok-ops.ensures.refs r (subst (λ (ops : List Op). IsOneOf r (refs_in_all ops)) c.deref.ensures.value one))

pub stays_within-requires-clause-fits : goal.stays_within-requires-clause-fits
stays_within-requires-clause-fits c = step_fits c.args.store.now c.in_ok-ordered.ordered c.args.set c.deref.result.now c.in_ok-ordered.ensures.rel (ap (acts_of c.args.store.now 1) c.deref.ensures.value ∙ c.in_ok-ops.ensures.turn 0)

pub returns-clause-means : goal.returns-clause-means
returns-clause-means c =
    iff_then c.stays_within.result _ _
    (iff_trans
    (step_half c.args.store.now c.in_ok-ordered.ordered c.args.set c.deref.result.now c.in_ok-ordered.ensures.rel c.requires.current (ap (acts_of c.args.store.now 1) c.deref.ensures.value ∙ c.in_ok-ops.ensures.turn 0))
    (c.in_ok-ordered.ensures.means (table c.args.store.now c.args.set)))
    c.stays_within.ensures.means
