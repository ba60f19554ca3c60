use Rattle.std.proofs.Common.{◌≡◌, ◌+◌, ◌<◌, ◌≤◌, List, length, get_or, subst, ap, ◌∙◌}
use Rattle.smv_core.specs.declared.flat.Element.{Element}
use Rattle.smv_readings.specs.StateBits.{bits_of_family}
use Rattle.smv_readings.specs.States.{bits_in, values_from}
use Rattle.smv_readings.proofs.Loops.{part_short, width_is, value_is, next_bits, next_within, next_values}
use Rattle.smv_readings.proofs.readings.read.Goals as goal

pub spelled-code-requires : goal.spelled-code-requires
spelled-code-requires c = part_short c.args.bits.now c.loop-x.bit c.count_of-count.result c.bits_needed.result c.count_of-count.type_inv c.bits_needed.ensures

pub loop-x-preserved : goal.loop-x-preserved
loop-x-preserved c =
    let p = c.args.problem.now in
    let items : c.as_slice-x-items.result.now ≡ p.elements = c.as_slice-x-items.ensures in
    let lt : c.loop-x.x-index < length p.elements = subst (λ (xs : List Element). c.loop-x.x-index < length xs) items c.loop-x-test.true in
    let is : c.x-item.result ≡ get_or p.elements c.loop-x.x-index c.x-item.result = c.x-item.is ∙ ap (λ (xs : List Element). get_or xs c.loop-x.x-index c.x-item.result) items in
    let wide : c.bits_needed.result ≡ bits_of_family p.families p.lists p.types c.x-item.result.family =
    width_is p.families p.lists p.types c.as_slice-families.result.now c.as_slice-lists.result.now c.as_slice-types.result.now c.as_slice-families.ensures c.as_slice-lists.ensures c.as_slice-types.ensures c.x-item.result.family c.count_of-count.result c.bits_needed.result c.count_of-count.ensures c.bits_needed.ensures in
    let within : c.loop-x.bit + c.bits_needed.result ≤ length c.args.bits.now = next_within p.families p.lists p.types p.elements c.loop-x.x-index c.x-item.result lt is c.loop-x.bit c.bits_needed.result wide (length c.args.bits.now) c.loop-x.invariant.bits in
    record {
      bits = next_bits p.families p.lists p.types p.elements c.loop-x.x-index c.x-item.result lt is c.loop-x.bit c.bits_needed.result wide (length c.args.bits.now) c.loop-x.invariant.bits;
      values = next_values p.families p.lists p.types p.elements c.loop-x.x-index c.x-item.result lt is c.loop-x.bit c.bits_needed.result wide (bits_in c.args.bits.now) c.loop-x.values c.push.new.self
          (values_from p.families p.lists p.types (bits_in c.args.bits.now) 0 p.elements) c.of_family.result c.loop-x.invariant.values
          (value_is p.families p.lists p.types c.as_slice-families.result.now c.as_slice-lists.result.now c.as_slice-types.result.now c.as_slice-families.ensures c.as_slice-lists.ensures c.as_slice-types.ensures c.args.bits.now c.loop-x.bit c.x-item.result.family c.bits_needed.result c.spelled-code.result c.of_family.result wide within c.spelled-code.ensures c.of_family.ensures)
          c.in_ok-push.ensures.ok;
    }
