use Rattle.std.proofs.Common.{◌∙◌, ap, subst, List}
use Rattle.bdd_ops.proofs.Tables.{if_ok_then}
use Rattle.smv_rings.specs.declared.ops.Op.{Op}
use Rattle.smv_rings.specs.Ops.{IsOneOf, acts_of, refs_in_all}
use Rattle.smv_ring_paths.proofs.Images.{image_fits, image_refs, image_is_current, image_means}
use Rattle.smv_ring_paths.proofs.sets.image.Goals as goal

pub leave_all-requires-clause-refs : goal.leave_all-requires-clause-refs
leave_all-requires-clause-refs c =
    image_refs c.args.store.now c.in_ok-rel.rel c.args.fs.now c.args.set c.deref.result.now c.in_ok-rel.ensures.rel c.in_ok-rel.ensures.now c.in_ok-rel.ensures.before c.requires.current
    (ap (acts_of c.args.store.now 1) c.deref.ensures.value ∙ c.in_ok-turn.ensures.turn 0)
    (λ r one. c.in_ok-turn.ensures.refs r (subst (λ (ops : List Op). IsOneOf r (refs_in_all ops)) c.deref.ensures.value one))

pub leave_all-requires-clause-fits : goal.leave_all-requires-clause-fits
leave_all-requires-clause-fits c =
    image_fits c.args.store.now c.in_ok-rel.rel c.args.fs.now c.args.set c.deref.result.now c.in_ok-rel.ensures.rel c.in_ok-rel.ensures.now c.in_ok-rel.ensures.before c.requires.current
    (ap (acts_of c.args.store.now 1) c.deref.ensures.value ∙ c.in_ok-turn.ensures.turn 0)

pub returns-clause-current : goal.returns-clause-current
returns-clause-current c =
    if_ok_then c.leave_all.result _ _ (λ r is.
    image_is_current c.args.store.now c.in_ok-rel.rel c.args.fs.now c.args.set c.deref.result.now c.in_ok-rel.ensures.rel c.in_ok-rel.ensures.now c.in_ok-rel.ensures.before c.requires.current
    (ap (acts_of c.args.store.now 1) c.deref.ensures.value ∙ c.in_ok-turn.ensures.turn 0) c.leave_all.new.store r is) c.leave_all.ensures.table

pub returns-clause-means : goal.returns-clause-means
returns-clause-means c =
    if_ok_then c.leave_all.result _ _ (λ r is.
    image_means c.args.store.now c.in_ok-rel.rel c.args.fs.now c.args.set c.deref.result.now c.in_ok-rel.ensures.rel c.in_ok-rel.ensures.now c.in_ok-rel.ensures.before c.requires.current
    (ap (acts_of c.args.store.now 1) c.deref.ensures.value ∙ c.in_ok-turn.ensures.turn 0) c.leave_all.new.store r is) c.leave_all.ensures.table
