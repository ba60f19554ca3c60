use Rattle.std.proofs.Common.{◌≡◌, ◌∙◌, ◌∷◌, [], None, map, length, refl, ap, subst, arith}
use Rattle.std.proofs.lemmas.List.{map-append, nil_from_length}
use Rattle.smv_first_fault.specs.Firsts.{least}
use Rattle.law_splits.specs.Chains.{shown}
use Rattle.smv_split_faults.specs.Waiting.{held}
use Rattle.smv_split_faults.proofs.WalkLaws.{Goes, begins, further, smaller, over}
use Rattle.smv_split_faults.proofs.mismatches.first_of_name.Goals as goal

pub loop-next-init : goal.loop-next-init
loop-next-init c =
    let d = c.args.tables.now.design.now in
    subst (λ n. Goes d c.args.types.items (map held c.add_following.new.out.items) None (least (shown d n c.args.name.now c.args.types.items))) c.len.ensures
    (begins d c.args.name.now c.args.types.items c.len-known.result c.len.result (map held c.new.result.items) (map held c.add_following.new.out.items) None
    (omega (arith, c.len-known.ensures, c.args.types.ok.0)) (ap (map held) c.new.ensures.items) refl c.in_ok-add_following.ensures)

pub loop-next-preserved : goal.loop-next-preserved
loop-next-preserved c =
    further c.args.tables.now.design.now c.loop-next.walk.types.items c.meet.new.walk.types.items (map held c.loop-next.walk.waiting.items) (map held c.pop.new.self.items) (map held c.meet.new.walk.waiting.items)
    (held c.in-Some.next) c.loop-next.walk.found c.meet.new.walk.found _ (ap (map held) c.in-Some.ensures.items ∙ map-append held c.pop.new.self.items (c.in-Some.next ∷ []))
    c.in_ok-meet.ensures.types c.in_ok-meet.ensures.found c.in_ok-meet.ensures.waiting c.loop-next.invariant

pub loop-next-smaller : goal.loop-next-smaller
loop-next-smaller c =
    smaller c.args.tables.now.design.now c.loop-next.walk.types.items c.meet.new.walk.types.items (map held c.loop-next.walk.waiting.items) (map held c.pop.new.self.items) (map held c.meet.new.walk.waiting.items)
    (held c.in-Some.next) c.loop-next.walk.found c.meet.new.walk.found None (ap (map held) c.in-Some.ensures.items ∙ map-append held c.pop.new.self.items (c.in-Some.next ∷ []))
    c.in_ok-meet.ensures.types c.in_ok-meet.ensures.found c.in_ok-meet.ensures.waiting

pub returns : goal.returns
returns c =
    let none : length c.loop-next.walk.waiting.items ≡ 0 = omega (arith, c.in_default.ensures.cases.0, c.loop-next.walk.waiting.ok.0) in
    over c.args.tables.now.design.now c.loop-next.walk.types.items (map held c.loop-next.walk.waiting.items) c.loop-next.walk.found _ (ap (map held) (nil_from_length c.loop-next.walk.waiting.items none)) c.loop-next.invariant
