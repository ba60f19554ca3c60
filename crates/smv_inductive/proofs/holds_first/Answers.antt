use Rattle.std.proofs.Common.{◌≡◌, ◌∙◌, List, subst, sym}
use Rattle.smv_rings.specs.declared.ops.Op.{Op}
use Rattle.smv_rings.specs.Lists.{refs_of}
use Rattle.smv_rings.specs.Ops.{IsOneOf, acts_of, refs_in_all, FitsActs}
use Rattle.bdd_store.specs.Diagram.{table}
use Rattle.smv_rings.proofs.Refs.{each_live}
use Rattle.smv_inductive.specs.Halves.{first_ops_of}
use Rattle.smv_inductive.proofs.Kept.{first_refs, first_fits, first_half, iff_then}
use Rattle.smv_inductive.proofs.holds_first.Goals as goal

pub stays_within-requires-clause-refs : goal.stays_within-requires-clause-refs
stays_within-requires-clause-refs c r one =
    let is : c.deref.result.now ≡ first_ops_of c.args.rel.now = c.deref.ensures.value ∙ c.in_ok-ops.ensures in
    each_live c.args.store.now (refs_of c.args.rel.now) c.requires.rel.live r (first_refs c.args.rel.now r (subst (λ (ops : List Op). IsOneOf r (refs_in_all ops)) is one))

pub stays_within-requires-clause-fits : goal.stays_within-requires-clause-fits
stays_within-requires-clause-fits c =
    let d = c.args.store.now in
    let is : c.deref.result.now ≡ first_ops_of c.args.rel.now = c.deref.ensures.value ∙ c.in_ok-ops.ensures in
    subst (λ (ops : List Op). FitsActs d.vars (table d c.constant-all.result) (acts_of d 1 ops)) (sym is) (first_fits d d.vars 1 c.args.rel.now (table d c.constant-all.result))

pub returns-clause-means : goal.returns-clause-means
returns-clause-means c =
    iff_then c.stays_within.result _ _
    (first_half c.args.store.now c.args.rel.now c.args.set c.constant-all.result c.deref.result.now c.requires.rel c.requires.current c.constant-all.ensures.constant (c.deref.ensures.value ∙ c.in_ok-ops.ensures))
    c.stays_within.ensures.means
