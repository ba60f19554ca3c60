use Rattle.std.proofs.Common.{◌≡◌, suc, ◌*◌, ◌++◌, ◌∷◌, [], List, map, false, true, replicate, refl, ap, subst, ◌∙◌, ◌⊎◌}
use Rattle.bdd_store.specs.declared.Ref.{Ref}
use Rattle.bdd_store.specs.Diagram.{table}
use Rattle.smv_rings.specs.Lists.{refs_of}
use Rattle.bdd_ops.specs.Functions.{Function}
use Rattle.smv_rings.specs.declared.ops.Op.TheVariants.{Rename}
use Rattle.smv_rings.specs.Ops.{IsOneOf, AreMarked, acts_of, back_acts, joins_onto, refs_in_all}
use Rattle.smv_rings.proofs.Refs.{each_live, in_before_step, in_broken_step, in_now_step, part_live}
use Rattle.smv_rings.proofs.Plans.{plan_turn, plan_refs, marks_none, unread_given, refs_reversed}
use Rattle.smv_rings.proofs.ops.plan.Goals as goal

pub add_joins-requires-clause-live : goal.add_joins-requires-clause-live
add_joins-requires-clause-live c = part_live c.args.store.now (refs_of c.args.rel.now) c.args.rel.now.before_step.items c.deref.result.now c.requires.rel.live (in_before_step c.args.rel.now) c.deref.ensures.value

pub add_outs-requires-clause-live : goal.add_outs-requires-clause-live
add_outs-requires-clause-live c = each_live c.args.store.now (refs_of c.args.rel.now) c.requires.rel.live c.args.rel.now.broken_step (in_broken_step c.args.rel.now c.args.rel.now.broken_step refl)

pub add_joins-requires-2-clause-live : goal.add_joins-requires-2-clause-live
add_joins-requires-2-clause-live c = part_live c.args.store.now (refs_of c.args.rel.now) c.args.rel.now.now_step.items c.deref-2.result.now c.requires.rel.live (in_now_step c.args.rel.now) c.deref-2.ensures.value

pub returns-clause-turn : goal.returns-clause-turn
returns-clause-turn c k =
    let d = c.args.store.now in
    let rel = c.args.rel.now in
    let many : c.vars-vars.result ≡ 2 * rel.bits = c.vars-vars.ensures.vars ∙ c.requires.rel.vars in
    let before : List Function = map (table d) rel.before_step.items ++ [] in
    let broken : List Function = table d rel.broken_step ∷ before in
    let marked0 : AreMarked (2 * rel.bits) [] c.in_ok-read.read.items = marks_none (2 * rel.bits) c.in_ok-read.read.items (c.in_ok-read.ensures.items_if_clones_equal (λ y e. e) ∙ ap (λ n. replicate n false) many) in
    let marked1 : AreMarked (2 * rel.bits) before c.add_joins.new.read.items =
    subst (λ (rs : List Ref). AreMarked (2 * rel.bits) (map (table d) rs ++ []) c.add_joins.new.read.items) c.deref.ensures.value (c.in_ok-add_joins.ensures.read [] marked0) in
    let marked2 : AreMarked (2 * rel.bits) broken c.add_outs.new.read.items = c.in_ok-add_outs.ensures.read before marked1 in
    let marked3 : AreMarked (2 * rel.bits) (map (table d) rel.now_step.items ++ broken) c.add_joins-2.new.read.items =
    subst (λ (rs : List Ref). AreMarked (2 * rel.bits) (map (table d) rs ++ broken) c.add_joins-2.new.read.items) c.deref-2.ensures.value (c.in_ok-add_joins-2.ensures.read broken marked2) in
    ap (acts_of d (suc k)) c.reverse.ensures.items
    ∙ plan_turn d rel c.push.new.self.items c.add_joins.new.ops.items c.add_outs.new.ops.items c.push-2.new.self.items c.add_joins-2.new.ops.items c.push_outs.new.ops.items
    (c.in_ok-push.ensures.items ∙ ap (λ ops. ops ++ (Rename ∷ [])) c.new-ops.ensures.items) c.in_ok-push-2.ensures.items k
    (subst (λ (rs : List Ref). back_acts d (suc k) c.add_joins.new.ops.items ≡ joins_onto rel.bits (map (table d) rs) [] (back_acts d (suc k) c.push.new.self.items)) c.deref.ensures.value (c.in_ok-add_joins.ensures.acts [] marked0 (suc k)))
    (c.in_ok-add_outs.ensures.acts before marked1 (suc k))
    (subst (λ (rs : List Ref). back_acts d (suc k) c.add_joins-2.new.ops.items ≡ joins_onto rel.bits (map (table d) rs) broken (back_acts d (suc k) c.push-2.new.self.items)) c.deref-2.ensures.value (c.in_ok-add_joins-2.ensures.acts broken marked2 (suc k)))
    (unread_given d (suc k) rel.bits (map (table d) rel.now_step.items ++ broken) c.in_ok-all.all.items c.add_joins-2.new.read.items c.deref-3.result.now c.deref-4.result.now c.push_outs.new.ops.items c.add_joins-2.new.ops.items
    c.deref-3.ensures.value c.deref-4.ensures.value (c.in_ok-all.ensures.items_if_clones_equal (λ y e. e) ∙ ap (λ n. replicate n true) many) marked3 (c.in_ok-push_outs.ensures.acts d (suc k)))

pub returns-clause-refs : goal.returns-clause-refs
returns-clause-refs c r one =
    plan_refs c.args.store.now c.args.rel.now c.push.new.self.items c.add_joins.new.ops.items c.add_outs.new.ops.items c.push-2.new.self.items c.add_joins-2.new.ops.items c.push_outs.new.ops.items
    (c.in_ok-push.ensures.items ∙ ap (λ ops. ops ++ (Rename ∷ [])) c.new-ops.ensures.items) c.in_ok-push-2.ensures.items
    (subst (λ (rs : List Ref). (q : Ref) → IsOneOf q (refs_in_all c.add_joins.new.ops.items) → IsOneOf q (refs_in_all c.push.new.self.items) ⊎ IsOneOf q rs) c.deref.ensures.value c.in_ok-add_joins.ensures.refs)
    c.in_ok-add_outs.ensures.refs
    (subst (λ (rs : List Ref). (q : Ref) → IsOneOf q (refs_in_all c.add_joins-2.new.ops.items) → IsOneOf q (refs_in_all c.push-2.new.self.items) ⊎ IsOneOf q rs) c.deref-2.ensures.value c.in_ok-add_joins-2.ensures.refs)
    c.in_ok-push_outs.ensures.refs
    r (refs_reversed r c.push_outs.new.ops.items (subst (λ ops. IsOneOf r (refs_in_all ops)) c.reverse.ensures.items one))
