use Rattle.std.proofs.Common.{◌≡◌, ◌<◌, ◌+◌, length, map, get_or, slice_set, cond, rules, ap, sym, ◌∙◌, subst, arith, ◌++◌, ◌∷◌, []}
use Rattle.std.proofs.lemmas.List.{get_or_read}
use Rattle.smv_core.specs.Walk.{same_kind}
use Rattle.smv_single_assignment.specs.declared.assignments.Assignment.{Assignment}
use Rattle.smv_single_assignment.specs.Held.{standing_of}
use Rattle.smv_single_assignment.specs.Links.{IsBehind}
use Rattle.smv_single_assignment.proofs.LinkLaws.{held-at, held-length, behind-next, links-more}
use Rattle.smv_single_assignment.proofs.links.linked.Goals as goal

pub loop-place-preserved : goal.loop-place-preserved
loop-place-preserved c =
    let all = map standing_of c.args.all.now in
    let classes = c.args.classes.now in
    let i = c.loop-place.place in
    let ends = c.loop-place.ends.items in
    let here = held-at c.args.all.now i c.index-all-place.result (omega arith) c.index-all-place.is in
    let below : get_or classes i 0 < c.args.count = c.requires.below i (omega (arith, c.requires.each, held-length c.args.all.now)) in
    let below_ends : get_or classes i 0 < length ends = omega (arith, below, c.loop-place.invariant.ends_all) in
    let end : c.index-end.result.now ≡ get_or ends (get_or classes i 0) 0 = get_or_read ends (get_or classes i 0) c.index-end.result.now below_ends c.index-end.ensures 0 in
    let kinds : c.same_kind.result ≡ same_kind c.index-all-place.result.kind c.args.kind = c.same_kind.ensures ∙ ap (λ (x : Assignment). same_kind x.kind c.args.kind) (sym c.index-all-place.is) in
    let moved : c.end_after.result ≡ cond (same_kind c.index-all-place.result.kind c.args.kind) (i + 1) (get_or ends (get_or classes i 0) 0) =
    c.end_after.ensures ∙ ap (λ t. cond t (i + 1) c.index-end.result.now) kinds ∙ ap (cond (same_kind c.index-all-place.result.kind c.args.kind) (i + 1)) end in
    let pushed : c.push.new.self.items ≡ c.loop-place.links.items ++ get_or ends (get_or classes i 0) 0 ∷ [] = search rules in
    record {
      ends_all = search rules;
      links_all = search rules;
      behind = λ class lt. subst (λ e. IsBehind all classes c.args.kind class (i + 1) (get_or (slice_set ends (get_or classes i 0) e) class 0)) (sym moved)
          (behind-next all classes c.args.kind ends i (standing_of c.index-all-place.result) class below_ends here (c.loop-place.invariant.behind class lt));
      linked = links-more all classes c.args.kind c.loop-place.links.items c.push.new.self.items i (get_or ends (get_or classes i 0) 0) c.loop-place.invariant.links_all c.loop-place.invariant.linked (c.loop-place.invariant.behind (get_or classes i 0) below) pushed;
    }
