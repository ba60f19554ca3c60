use Rattle.std.proofs.Common.{◌∙◌, List, [], ◌∷◌, ◌++◌, ap, map, sym, subst}
use Rattle.bdd_store.specs.declared.Ref.{Ref}
use Rattle.bdd_store.specs.Diagram.{table}
use Rattle.bdd_store.proofs.Keeping.{live_kept}
use Rattle.bdd_ops.specs.Functions.{bit_at}
use Rattle.smv_rings.specs.Lists.{State}
use Rattle.smv_ring_paths.specs.Steps.{IsStep}
use Rattle.smv_ring_paths.specs.BitPaths.{state_of}
use Rattle.smv_ring_paths.proofs.Backward.{current_later}
use Rattle.smv_ring_paths.proofs.Walks.{ring_current, last_live, last_some, last_later, last_goes, last_from}
use Rattle.smv_ring_paths.proofs.last_step.Goals as goal

pub state_after-requires-clause-current : goal.state_after-requires-clause-current
state_after-requires-clause-current c = ring_current c.args.store.now c.args.rel.now c.requires.rel c.args.last c.requires.ring

pub state_after-requires-clause-fs : goal.state_after-requires-clause-fs
state_after-requires-clause-fs c = last_live c.args.store.now c.args.rel.now c.requires.rel c.deref-2.result.now (c.deref-2.ensures.value ∙ c.in_ok-broken.ensures ∙ ap (λ (rs : List Ref). rs ++ (c.args.rel.now.broken_step ∷ [])) c.deref.ensures.value)

pub state_after-requires-clause-some : goal.state_after-requires-clause-some
state_after-requires-clause-some c = last_some c.args.store.now c.args.rel.now c.requires.rel c.deref-2.result.now (c.deref-2.ensures.value ∙ c.in_ok-broken.ensures ∙ ap (λ (rs : List Ref). rs ++ (c.args.rel.now.broken_step ∷ [])) c.deref.ensures.value) c.args.last c.requires.some

pub state_before-requires-clause-current : goal.state_before-requires-clause-current
state_before-requires-clause-current c = current_later c.args.store.now c.state_after.new.store c.in_ok-end.ensures.keeps c.args.last c.deref-3.result.now c.requires.live (last_live c.args.store.now c.args.rel.now c.requires.rel c.deref-3.result.now (c.deref-3.ensures.value ∙ c.in_ok-broken.ensures ∙ ap (λ (rs : List Ref). rs ++ (c.args.rel.now.broken_step ∷ [])) c.deref.ensures.value)) (ring_current c.args.store.now c.args.rel.now c.requires.rel c.args.last c.requires.ring)

pub state_before-requires-clause-fs : goal.state_before-requires-clause-fs
state_before-requires-clause-fs c = live_kept c.args.store.now c.state_after.new.store c.deref-3.result.now c.in_ok-end.ensures.keeps (last_live c.args.store.now c.args.rel.now c.requires.rel c.deref-3.result.now (c.deref-3.ensures.value ∙ c.in_ok-broken.ensures ∙ ap (λ (rs : List Ref). rs ++ (c.args.rel.now.broken_step ∷ [])) c.deref.ensures.value))

pub state_before-requires-clause-some : goal.state_before-requires-clause-some
state_before-requires-clause-some c =
    last_later c.args.store.now c.args.rel.now c.requires.rel c.deref-3.result.now (c.deref-3.ensures.value ∙ c.in_ok-broken.ensures ∙ ap (λ (rs : List Ref). rs ++ (c.args.rel.now.broken_step ∷ [])) c.deref.ensures.value) c.state_after.new.store c.in_ok-end.ensures.keeps c.args.last c.requires.live (state_of c.in_ok-end.end) (bit_at c.deref-4.result.now) (ap bit_at (sym c.deref-4.ensures.value))
    (subst (λ (rs : List Ref). (r : State) × IsStep (table c.args.store.now c.args.last) (map (table c.args.store.now) rs) r (state_of c.in_ok-end.end)) (c.deref-2.ensures.value ∙ sym c.deref-3.ensures.value) c.in_ok-end.ensures.step)

pub returns-clause-in_ring : goal.returns-clause-in_ring
returns-clause-in_ring c =
    last_from c.args.store.now c.args.rel.now c.requires.rel c.deref-3.result.now (c.deref-3.ensures.value ∙ c.in_ok-broken.ensures ∙ ap (λ (rs : List Ref). rs ++ (c.args.rel.now.broken_step ∷ [])) c.deref.ensures.value) c.state_after.new.store c.in_ok-end.ensures.keeps c.args.last c.requires.live (state_of c.in_ok-old.old) (state_of c.in_ok-end.end) (bit_at c.deref-4.result.now) (ap bit_at (sym c.deref-4.ensures.value)) c.in_ok-old.ensures.step

pub returns-clause-goes_on : goal.returns-clause-goes_on
returns-clause-goes_on c =
    last_goes c.args.store.now c.args.rel.now c.requires.rel c.deref-3.result.now (c.deref-3.ensures.value ∙ c.in_ok-broken.ensures ∙ ap (λ (rs : List Ref). rs ++ (c.args.rel.now.broken_step ∷ [])) c.deref.ensures.value) c.state_after.new.store c.in_ok-end.ensures.keeps c.args.last c.requires.live (state_of c.in_ok-old.old) (state_of c.in_ok-end.end) (bit_at c.deref-4.result.now) (ap bit_at (sym c.deref-4.ensures.value)) c.in_ok-old.ensures.step
