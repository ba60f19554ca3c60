use Rattle.std.proofs.Common.{◌≡◌, List, ℕ, Option, Some, slice_get, sym, ap, ◌∙◌}
use Rattle.smv_core.specs.declared.flat.Cell.{Cell}
use Rattle.smv_loops.specs.declared.listed.Listed.{Listed}
use Rattle.smv_loops.specs.Order.{every_way, listed, lists_of}
use Rattle.smv_loops.proofs.TableLaws.{get-some}
use Rattle.smv_loops.proofs.WayLaws.{list-more, list-all, over-same}
use Rattle.smv_loops.proofs.listed.list_family.Goals as goal

pub loop-list-preserved : goal.loop-list-preserved
loop-list-preserved c =
    let families = c.args.families.now in
    let family = c.args.family in
    let h : Cell → Listed = listed families c.args.ranks.now in
    let f : slice_get families family ≡ Some c.in-Some.shape.now = ap (λ (k : ℕ). slice_get families k) (sym c.from-place.ensures) ∙ get-some families c.from-place.result c.in-Some.shape.now c.in-Some.ensures.lookup.3.0 c.in-Some.ensures.lookup.1 in
    let here : c.in_ok-cell.cell ≡ h (record { family = family; indexes = c.list-item.result.items }) = c.in_ok-cell.ensures c.in-Some.shape.now f ∙ ap (λ (is : List (Option ℕ)). h (record { family = family; indexes = is })) c.as_slice-in-loop-list.ensures.value in
    list-more h family c.deref-list-items.result.now c.loop-list.list-index c.list-item.result c.args.out.now.items c.loop-list.out.items c.push.new.self.items c.in_ok-cell.cell c.loop-list-test.true c.list-item.is c.loop-list.invariant here c.in_ok-push.ensures.items

pub returns : goal.returns
returns c = λ g at.
    let families = c.args.families.now in
    let family = c.args.family in
    let f : slice_get families family ≡ Some c.in-Some.shape.now = ap (λ (k : ℕ). slice_get families k) (sym c.from-place.ensures) ∙ get-some families c.from-place.result c.in-Some.shape.now c.in-Some.ensures.lookup.3.0 c.in-Some.ensures.lookup.1 in
    let lists : lists_of c.deref-list-items.result.now ≡ every_way c.as_slice.result.now = ap lists_of c.deref-list-items.ensures.value ∙ c.in_ok-lists.ensures in
    list-all (listed families c.args.ranks.now) family g c.as_slice.result.now c.deref-list-items.result.now c.loop-list.list-index c.args.out.now.items c.loop-list.out.items c.loop-list-test.false lists (c.as_slice.ensures ∙ over-same families family c.in-Some.shape.now g f at) c.loop-list.invariant
