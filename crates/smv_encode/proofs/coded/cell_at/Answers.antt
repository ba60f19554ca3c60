use Rattle.std.proofs.Common.{◌≤◌, ℕ, ap, subst, sym, ◌∙◌, length}
use Rattle.smv_encode.proofs.CodedCells.{few_bits, enough_bits, spots_counted, whole_cell, values_made}
use Rattle.smv_encode.proofs.coded.cell_at.Goals as goal

pub values-requires-clause-width : goal.values-requires-clause-width
values-requires-clause-width c = few_bits (length c.args.places.now) c.count-count.result _ c.requires.width c.count-count.ensures c.count-count.type_inv

pub values-requires-clause-enough : goal.values-requires-clause-enough
values-requires-clause-enough c = enough_bits (length c.args.places.now) c.count-count.result _ c.requires.width c.count-count.ensures

pub offers-requires : goal.offers-requires
offers-requires c =
    ap (λ rs. length rs) c.as_slice-2.ensures.value ∙ c.in_ok-conditions.ensures.count ∙ c.count-count.ensures
    ∙ sym (spots_counted c.args.problem.now c.requires.well_formed c.args.element.now.family c.in_ok-spots.spots.items c.in_ok-spots.ensures) ∙ sym (ap (λ ps. length ps) c.as_slice.ensures.value)

pub returns-clause-made : goal.returns-clause-made
returns-clause-made c = values_made c.values.new.store c.in_ok-spots.spots.items c.as_slice.result.now c.in_ok-conditions.conditions.items c.as_slice-2.result.now c.as_slice-2.ensures.value c.in_ok-conditions.ensures.live c.in_ok-values.values c.in_ok-values.ensures

pub returns-clause-coded : goal.returns-clause-coded
returns-clause-coded c =
    whole_cell c.values.new.store c.args.next c.args.places.now c.args.problem.now c.args.element.now c.count-count.result c.requires.width c.count-count.ensures (subst (λ (n : ℕ). 1 ≤ n) (sym c.count-count.ensures) c.requires.some)
    c.in_ok-spots.spots.items c.as_slice.result.now c.as_slice.ensures.value c.in_ok-spots.ensures c.in_ok-conditions.conditions.items c.as_slice-2.result.now c.as_slice-2.ensures.value c.in_ok-conditions.ensures.count c.in_ok-conditions.ensures.values
    c.in_ok-indexes.indexes c.in_ok-indexes.ensures c.in_ok-values.values c.in_ok-values.ensures
