use Rattle.std.proofs.Common.{List, nat_le, ap, subst, sym, ◌∙◌}
use Rattle.smv_core.specs.declared.flat.Family.{Family}
use Rattle.smv_core.specs.declared.flat.Element.{Element}
use Rattle.smv_elements.specs.Elements.{AreInOrder, HaveSame}
use Rattle.smv_readings.specs.StateBits.{bits_of_elements}
use Rattle.smv_cone.proofs.Ends.{full-bits, many-bits, few-bits}
use Rattle.smv_cone.proofs.calls.in_order.Goals as goal

pub returns-then-full : goal.returns-then-full
returns-then-full c = full-bits c.args.part.now c.requires.view c.requires.least c.args.found c.requires.found c.is_full-full.result c.is_full-full.ensures c.if-full.true

pub returns-else-few : goal.returns-else-few
returns-else-few c =
    let types = c.args.part.now.view.types.now in
    let few = c.are_few-few.ensures
    ∙ (ap (λ (fs : List Family). nat_le (bits_of_elements fs c.as_slice-counts.result.now types c.as_slice-elements.result.now) 1024) c.as_slice-families.ensures
    ∙ ap (λ (es : List Element). nat_le (bits_of_elements c.args.part.now.view.design.now.families c.as_slice-counts.result.now types es) 1024) c.as_slice-elements.ensures) in
    many-bits c.args.part.now c.requires.view c.requires.least c.args.found c.requires.found c.is_full-full.result c.is_full-full.ensures c.if-full.false c.as_slice-counts.result.now (c.as_slice-counts.ensures.value ∙ c.in_ok-lists.ensures) c.are_few-few.result few c.if-few.false

pub returns-then-few : goal.returns-then-few
returns-then-few c =
    let types = c.args.part.now.view.types.now in
    let few = c.are_few-few.ensures
    ∙ (ap (λ (fs : List Family). nat_le (bits_of_elements fs c.as_slice-counts.result.now types c.as_slice-elements.result.now) 1024) c.as_slice-families.ensures
    ∙ ap (λ (es : List Element). nat_le (bits_of_elements c.args.part.now.view.design.now.families c.as_slice-counts.result.now types es) 1024) c.as_slice-elements.ensures) in
    few-bits c.args.part.now c.requires.view c.requires.least c.args.found c.requires.found c.is_full-full.result c.is_full-full.ensures c.if-full.false c.as_slice-counts.result.now (c.as_slice-counts.ensures.value ∙ c.in_ok-lists.ensures) c.are_few-few.result few c.if-few.true
    c.from_vec.result (subst AreInOrder (sym c.from_vec.ensures) c.into_sorted-sorted.ensures.order) (subst (HaveSame c.args.found) (sym c.from_vec.ensures) c.into_sorted-sorted.ensures.same)
