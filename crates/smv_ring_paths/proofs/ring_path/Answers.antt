use Rattle.std.proofs.Common.{◌≡◌, ◌∙◌, suc, ◌-◌, [], ◌∷◌, ◌++◌, List, Bool, length, take, refl, ap, arith}
use Rattle.std.proofs.lemmas.Grind.{common_steps}
use Rattle.std.specs.Global.{Vec}
use Rattle.smv_rings.specs.Lists.{lists_of}
use Rattle.smv_rings.proofs.Kept.{rel_kept}
use Rattle.smv_ring_paths.proofs.Found.{once_found, only_whole, last_ring, last_is_found, part_live, part_rings, part_ends, part_goes, part_none, part_whole}
use Rattle.smv_ring_paths.proofs.ring_path.Goals as goal

pub broken_at_once-requires-clause-some : goal.broken_at_once-requires-clause-some
broken_at_once-requires-clause-some c = once_found (lists_of c.args.store.now c.args.rel.now) (length c.args.rings.now) (grind (arith, common_steps)) c.requires.some

pub returns-then-is_empty-clause-path : goal.returns-then-is_empty-clause-path
returns-then-is_empty-clause-path c =
    only_whole c.args.store.now c.args.rel.now c.in_ok-only.only (length c.args.rings.now) c.push.new.self.items (grind (arith, common_steps)) c.in_ok-only.ensures.bits c.in_ok-only.ensures.violates
    (c.in_ok-push.ensures.items ∙ ap (λ (xs : List (Vec Bool)). xs ++ (c.in_ok-only.only ∷ [])) c.new-states.ensures.items)

pub last_step-requires-clause-ring : goal.last_step-requires-clause-ring
last_step-requires-clause-ring c =
    let long : length c.args.rings.now ≡ suc (length c.args.rings.now - 1) = grind (arith, common_steps) in
    last_ring c.args.store.now c.args.rel.now c.requires.rel c.args.rings.now c.requires.live c.requires.rings (length c.args.rings.now - 1) long

pub last_step-requires-clause-some : goal.last_step-requires-clause-some
last_step-requires-clause-some c =
    let long : length c.args.rings.now ≡ suc (length c.args.rings.now - 1) = grind (arith, common_steps) in
    last_is_found c.args.store.now c.args.rel.now c.requires.rel c.args.rings.now c.requires.live c.requires.rings (length c.args.rings.now - 1) long c.requires.some

pub walk_back-requires-clause-rel : goal.walk_back-requires-clause-rel
walk_back-requires-clause-rel c = rel_kept c.args.store.now c.last_step.new.store c.args.rel.now c.requires.rel c.in_ok-old.ensures.keeps

pub walk_back-requires-clause-live : goal.walk_back-requires-clause-live
walk_back-requires-clause-live c =
    let long : length c.args.rings.now ≡ suc (length c.args.rings.now - 1) = grind (arith, common_steps) in
    part_live c.args.store.now c.args.rel.now c.requires.rel c.args.rings.now c.requires.live c.requires.rings (length c.args.rings.now - 1) long c.last_step.new.store c.in_ok-old.ensures.keeps (take (length c.args.rings.now - 1) c.args.rings.now) refl

pub walk_back-requires-clause-rings : goal.walk_back-requires-clause-rings
walk_back-requires-clause-rings c =
    let long : length c.args.rings.now ≡ suc (length c.args.rings.now - 1) = grind (arith, common_steps) in
    part_rings c.args.store.now c.args.rel.now c.requires.rel c.args.rings.now c.requires.live c.requires.rings (length c.args.rings.now - 1) long c.last_step.new.store c.in_ok-old.ensures.keeps (take (length c.args.rings.now - 1) c.args.rings.now) refl

pub walk_back-requires-clause-ends : goal.walk_back-requires-clause-ends
walk_back-requires-clause-ends c =
    let long : length c.args.rings.now ≡ suc (length c.args.rings.now - 1) = grind (arith, common_steps) in
    part_ends c.args.store.now c.args.rel.now c.requires.rel c.args.rings.now c.requires.live c.requires.rings (length c.args.rings.now - 1) long c.last_step.new.store c.in_ok-old.ensures.keeps (take (length c.args.rings.now - 1) c.args.rings.now) refl c.in_ok-old.old c.in_ok-old.end c.in_ok-old.ensures.in_ring c.in_ok-old.ensures.goes_on c.requires.none

pub walk_back-requires-clause-goes_on : goal.walk_back-requires-clause-goes_on
walk_back-requires-clause-goes_on c =
    let long : length c.args.rings.now ≡ suc (length c.args.rings.now - 1) = grind (arith, common_steps) in
    part_goes c.args.store.now c.args.rel.now c.requires.rel c.args.rings.now c.requires.live c.requires.rings (length c.args.rings.now - 1) long c.last_step.new.store c.in_ok-old.ensures.keeps (take (length c.args.rings.now - 1) c.args.rings.now) refl c.in_ok-old.old c.in_ok-old.end c.push-2.new.self.items
    (c.in_ok-push-2.ensures.items ∙ ap (λ (xs : List (Vec Bool)). xs ++ (c.in_ok-old.end ∷ [])) c.new-states.ensures.items) c.in_ok-old.ensures.goes_on

pub walk_back-requires-clause-none : goal.walk_back-requires-clause-none
walk_back-requires-clause-none c =
    let long : length c.args.rings.now ≡ suc (length c.args.rings.now - 1) = grind (arith, common_steps) in
    part_none c.args.store.now c.args.rel.now c.requires.rel c.args.rings.now c.requires.live c.requires.rings (length c.args.rings.now - 1) long c.last_step.new.store c.in_ok-old.ensures.keeps (take (length c.args.rings.now - 1) c.args.rings.now) refl (length c.push-2.new.self.items)
    (ap (λ (xs : List (Vec Bool)). length xs) (c.in_ok-push-2.ensures.items ∙ ap (λ (xs : List (Vec Bool)). xs ++ (c.in_ok-old.end ∷ [])) c.new-states.ensures.items)) c.requires.none

pub returns-clause-path : goal.returns-clause-path
returns-clause-path c =
    let long : length c.args.rings.now ≡ suc (length c.args.rings.now - 1) = grind (arith, common_steps) in
    part_whole c.args.store.now c.args.rel.now c.requires.rel c.args.rings.now c.requires.live c.requires.rings (length c.args.rings.now - 1) long c.last_step.new.store c.in_ok-old.ensures.keeps (take (length c.args.rings.now - 1) c.args.rings.now) refl c.in_ok-first.first c.walk_back.new.states.items c.push-3.new.self.items c.reverse.new.self.items (length c.push-2.new.self.items)
    c.in_ok-first.ensures.starts c.in_ok-first.ensures.goes_on c.in_ok-first.ensures.count
    (ap (λ (xs : List (Vec Bool)). length xs) (c.in_ok-push-2.ensures.items ∙ ap (λ (xs : List (Vec Bool)). xs ++ (c.in_ok-old.end ∷ [])) c.new-states.ensures.items))
    c.in_ok-first.ensures.bits c.in_ok-first.ensures.have_bits c.in_ok-push-3.ensures.items c.reverse.ensures.items
