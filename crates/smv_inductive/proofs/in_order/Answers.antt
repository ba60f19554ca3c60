use Rattle.std.proofs.Common.{◌↔◌, ◌∙◌, List, refl, subst}
use Rattle.bdd_store.specs.declared.Ref.{Ref}
use Rattle.smv_rings.specs.declared.Rel.{Rel}
use Rattle.smv_rings.specs.Lists.{refs_of}
use Rattle.smv_rings.specs.Ops.{IsOneOf}
use Rattle.smv_rings.proofs.Refs.{part_live, in_now_step}
use Rattle.smv_inductive.proofs.Ordered.{holds_same, rel_same}
use Rattle.smv_inductive.proofs.in_order.Goals as goal

pub by_support-requires-clause-live : goal.by_support-requires-clause-live
by_support-requires-clause-live c = part_live c.args.store.now (refs_of c.args.rel.now) c.args.rel.now.now_step.items c.deref.result.now c.requires.rel.live (λ r one. in_now_step c.args.rel.now r one) c.deref.ensures.value

pub returns-clause-rel : goal.returns-clause-rel
returns-clause-rel c =
    let rel = c.args.rel.now in
    let other : Rel = record { now_first = c.new.result; before_first = c.new-2.result; broken_first = rel.broken_first; now_step = c.in_ok-now_step.now_step; before_step = c.in_ok-before_step.before_step; broken_step = rel.broken_step; bits = rel.bits } in
    let same : (r : Ref) → IsOneOf r other.now_step.items ↔ IsOneOf r rel.now_step.items = subst (λ (fs : List Ref). (r : Ref) → IsOneOf r other.now_step.items ↔ IsOneOf r fs) c.deref.ensures.value c.in_ok-now_step.ensures in
    rel_same c.args.store.now rel other c.requires.rel same (c.in_ok-before_step.ensures.items ∙ c.deref-2.ensures.value) refl c.new.ensures.items c.new-2.ensures.items refl refl

pub returns-clause-means : goal.returns-clause-means
returns-clause-means c p =
    let rel = c.args.rel.now in
    let other : Rel = record { now_first = c.new.result; before_first = c.new-2.result; broken_first = rel.broken_first; now_step = c.in_ok-now_step.now_step; before_step = c.in_ok-before_step.before_step; broken_step = rel.broken_step; bits = rel.bits } in
    let same : (r : Ref) → IsOneOf r other.now_step.items ↔ IsOneOf r rel.now_step.items = subst (λ (fs : List Ref). (r : Ref) → IsOneOf r other.now_step.items ↔ IsOneOf r fs) c.deref.ensures.value c.in_ok-now_step.ensures in
    holds_same c.args.store.now rel other same (c.in_ok-before_step.ensures.items ∙ c.deref-2.ensures.value) refl p
