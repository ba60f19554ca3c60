use Rattle.std.proofs.Common.{◌≡◌, ◌∙◌, suc, ◌-◌, ◌<◌, List, ◌++◌, length, get_or, ap, arith}
use Rattle.bdd_store.specs.declared.Ref.{Ref}
use Rattle.smv_ring_paths.proofs.Walks.{walk_current, walk_fs, walk_some, walk_on, walk_starts}
use Rattle.smv_ring_paths.proofs.walk_back.Goals as goal

pub state_before-requires-clause-current : goal.state_before-requires-clause-current
state_before-requires-clause-current c =
    let below : c.loop-left.left - 1 < length c.args.rings.now = let within = c.loop-left.invariant.within in omega arith in
    let is_left : c.loop-left.left ≡ suc (c.loop-left.left - 1) = omega arith in
    let fs_are : c.deref-in-loop-left.result.now ≡ c.args.rel.now.now_step.items ++ c.args.rel.now.before_step.items =
    c.deref-in-loop-left.ensures.value ∙ c.in_ok-steps.ensures ∙ ap (λ (rs : List Ref). rs ++ c.deref-2.result.now) c.deref.ensures.value ∙ ap (λ (rs : List Ref). c.args.rel.now.now_step.items ++ rs) c.deref-2.ensures.value in
    walk_current c.args.store.now c.args.rel.now c.requires.rel (length c.args.rings.now) (length c.args.states.now.items) c.loop-left.store c.loop-left.state c.loop-left.states.items c.loop-left.left (c.loop-left.left - 1) is_left
    c.loop-left.invariant (get_or c.args.rings.now (c.loop-left.left - 1) (record { place = 0 })) (c.requires.live (c.loop-left.left - 1) below) (c.requires.rings (c.loop-left.left - 1) below) c.deref-in-loop-left.result.now fs_are

pub state_before-requires-clause-fs : goal.state_before-requires-clause-fs
state_before-requires-clause-fs c =
    let below : c.loop-left.left - 1 < length c.args.rings.now = let within = c.loop-left.invariant.within in omega arith in
    let is_left : c.loop-left.left ≡ suc (c.loop-left.left - 1) = omega arith in
    let fs_are : c.deref-in-loop-left.result.now ≡ c.args.rel.now.now_step.items ++ c.args.rel.now.before_step.items =
    c.deref-in-loop-left.ensures.value ∙ c.in_ok-steps.ensures ∙ ap (λ (rs : List Ref). rs ++ c.deref-2.result.now) c.deref.ensures.value ∙ ap (λ (rs : List Ref). c.args.rel.now.now_step.items ++ rs) c.deref-2.ensures.value in
    walk_fs c.args.store.now c.args.rel.now c.requires.rel (length c.args.rings.now) (length c.args.states.now.items) c.loop-left.store c.loop-left.state c.loop-left.states.items c.loop-left.left (c.loop-left.left - 1) is_left
    c.loop-left.invariant (get_or c.args.rings.now (c.loop-left.left - 1) (record { place = 0 })) (c.requires.live (c.loop-left.left - 1) below) (c.requires.rings (c.loop-left.left - 1) below) c.deref-in-loop-left.result.now fs_are

pub state_before-requires-clause-some : goal.state_before-requires-clause-some
state_before-requires-clause-some c =
    let below : c.loop-left.left - 1 < length c.args.rings.now = let within = c.loop-left.invariant.within in omega arith in
    let is_left : c.loop-left.left ≡ suc (c.loop-left.left - 1) = omega arith in
    let fs_are : c.deref-in-loop-left.result.now ≡ c.args.rel.now.now_step.items ++ c.args.rel.now.before_step.items =
    c.deref-in-loop-left.ensures.value ∙ c.in_ok-steps.ensures ∙ ap (λ (rs : List Ref). rs ++ c.deref-2.result.now) c.deref.ensures.value ∙ ap (λ (rs : List Ref). c.args.rel.now.now_step.items ++ rs) c.deref-2.ensures.value in
    walk_some c.args.store.now c.args.rel.now c.requires.rel (length c.args.rings.now) (length c.args.states.now.items) c.loop-left.store c.loop-left.state c.loop-left.states.items c.loop-left.left (c.loop-left.left - 1) is_left
    c.loop-left.invariant (get_or c.args.rings.now (c.loop-left.left - 1) (record { place = 0 })) (c.requires.live (c.loop-left.left - 1) below) (c.requires.rings (c.loop-left.left - 1) below) c.deref-in-loop-left.result.now fs_are
    c.deref-in-loop-left-2.result.now c.deref-in-loop-left-2.ensures.value

pub loop-left-preserved : goal.loop-left-preserved
loop-left-preserved c =
    let below : c.loop-left.left - 1 < length c.args.rings.now = let within = c.loop-left.invariant.within in omega arith in
    let is_left : c.loop-left.left ≡ suc (c.loop-left.left - 1) = omega arith in
    let fs_are : c.deref-in-loop-left.result.now ≡ c.args.rel.now.now_step.items ++ c.args.rel.now.before_step.items =
    c.deref-in-loop-left.ensures.value ∙ c.in_ok-steps.ensures ∙ ap (λ (rs : List Ref). rs ++ c.deref-2.result.now) c.deref.ensures.value ∙ ap (λ (rs : List Ref). c.args.rel.now.now_step.items ++ rs) c.deref-2.ensures.value in
    walk_on c.args.store.now c.args.rel.now c.requires.rel (length c.args.rings.now) (length c.args.states.now.items) c.loop-left.store c.loop-left.state c.loop-left.states.items c.loop-left.left (c.loop-left.left - 1) is_left
    c.loop-left.invariant (get_or c.args.rings.now (c.loop-left.left - 1) (record { place = 0 })) (c.requires.live (c.loop-left.left - 1) below) (c.requires.rings (c.loop-left.left - 1) below) c.deref-in-loop-left.result.now fs_are
    c.state_before.new.store c.in_ok-old.old c.requires.none c.in_ok-old.ensures.keeps c.deref-in-loop-left-2.result.now c.deref-in-loop-left-2.ensures.value c.in_ok-old.ensures.length c.in_ok-old.ensures.step c.push.new.self.items c.in_ok-push.ensures.items

pub returns-clause-starts : goal.returns-clause-starts
returns-clause-starts c = walk_starts c.args.store.now c.args.rel.now c.requires.rel (length c.args.rings.now) (length c.args.states.now.items) c.loop-left.store c.loop-left.state c.loop-left.states.items c.loop-left.left (omega arith) c.loop-left.invariant
